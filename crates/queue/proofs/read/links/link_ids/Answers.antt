use Rattle.queue.proofs.layout.TurnLaws.{id_room}
use Rattle.queue.proofs.check.SuspectsLaws.{id_bytes}
use Rattle.queue.proofs.layout.TurnLaws.{here}
use Rattle.queue.proofs.read.LinksLaws.{linking, linking_end, linking_go}
use Rattle.queue.specs.check.FilterAs.{hash_all_value}
use Rattle.std.proofs.Common.{sym, ap, ◌∙◌, arith}
use Rattle.queue.proofs.read.links.link_ids.Goals as goal

pub loop-left-init : goal.loop-left-init
loop-left-init c = linking c.args.l.width c.args.l.row c.args.s.now _ _ _ _ _ _ _ c.requires.0 c.requires.1

pub id-requires : goal.id-requires
id-requires c = rw c.new-frame.ensures (id_room c.loop-left.invariant.scan c.loop-left-test.true)

pub row_at-y-requires : goal.row_at-y-requires
row_at-y-requires c = ((id_bytes (here c.loop-left.invariant.scan c.loop-left-test.true (rw c.new-frame.ensures at c.id.ensures.found))).1, c.requires.2, omega arith)

pub link_id-requires : goal.link_id-requires
link_id-requires c = (c.hash_all-h.ensures ∙ ap hash_all_value (sym (c.row_at-y.ensures.0 ∙ (id_bytes (here c.loop-left.invariant.scan c.loop-left-test.true (rw c.new-frame.ensures at c.id.ensures.found))).0)), c.row_at-y.ensures.1, c.requires.3, c.requires.4, omega (arith, c.requires.5, c.loop-left.invariant.size))

pub loop-left-preserved : goal.loop-left-preserved
loop-left-preserved c = linking_go c.loop-left.invariant c.row_at-y.result c.loop-left-test.true (rw c.new-frame.ensures at c.id.ensures.found) c.row_at-y.ensures.0 (omega arith) c.link_id.ensures

pub shape_of-bits : goal.shape_of-bits
shape_of-bits c = c.loop-left.invariant.size

pub returns : goal.returns
returns c = linking_end c.loop-left.invariant (omega (arith, c.loop-left-test.false))
