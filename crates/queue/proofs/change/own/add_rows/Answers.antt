use Rattle.std.specs.Prelude.{refl}
use Rattle.std.proofs.Common.{sym, ap, ◌∙◌, arith}
use Rattle.queue.proofs.change.OwnLaws.{add_end, add_go, adding}
use Rattle.queue.proofs.layout.TurnLaws.{id_room}
use Rattle.queue.specs.check.FilterAs.{hash_l}
use Rattle.queue.proofs.change.own.add_rows.Goals as goal

pub loop-left-init : goal.loop-left-init
loop-left-init c = (adding _ _ _ _ _ _ _ _ c.requires.6 c.requires.7, c.requires.3, refl, refl)

pub row_at-w-requires : goal.row_at-w-requires
row_at-w-requires c = (id_room c.loop-left.invariant.0.scan c.loop-left-test.true, c.requires.1, omega arith)

pub add_output-h-requires : goal.add_output-h-requires
add_output-h-requires c = (c.requires.0, c.requires.1, (omega (arith, c.requires.2.0, c.loop-left.invariant.3), c.requires.2.1), c.loop-left.invariant.1, omega (arith, c.requires.4, c.loop-left.invariant.2), c.requires.5, c.hash.ensures ∙ ap hash_l ((rw c.new-frame.ensures at c.id-id.ensures.is) ∙ sym c.row_at-w.ensures.0))

pub loop-left-preserved : goal.loop-left-preserved
loop-left-preserved c = (add_go _ _ _ c.loop-left.invariant.0 c.row_at-w.result c.loop-left-test.true (rw c.new-frame.ensures at c.id-id.ensures.found) c.row_at-w.ensures.0 c.row_at-w.ensures.1 c.add_output-h.ensures.0, omega (arith, c.add_output-h.ensures.1), omega (arith, c.loop-left.invariant.2), omega (arith, c.loop-left.invariant.3))

pub returns : goal.returns
returns c = (add_end _ _ _ c.loop-left.invariant.0 (omega arith), omega (arith, c.loop-left.invariant.1, c.loop-left.invariant.2))

pub id-id-requires : goal.id-id-requires
id-id-requires c = rw c.new-frame.ensures (id_room c.loop-left.invariant.0.scan c.loop-left-test.true)
