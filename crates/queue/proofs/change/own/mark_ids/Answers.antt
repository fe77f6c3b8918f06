use Rattle.std.specs.Prelude.{false, refl}
use Rattle.std.proofs.Common.{arith}
use Rattle.queue.proofs.change.OwnLaws.{mark_end, mark_go}
use Rattle.queue.proofs.change.IdLaws.{id_stands}
use Rattle.queue.proofs.layout.TurnLaws.{id_room, start}
use Rattle.queue.specs.bytes.Parts.{part}
use Rattle.queue.specs.bytes.ViewAs.{view, view_raw}
use Rattle.queue.specs.check.SuspectsAs.{later}
use Rattle.queue.specs.layout.FrameCodec.{id_c}
use Rattle.queue.specs.paper.Lists.{any?}
use Rattle.queue.proofs.change.own.mark_ids.Goals as goal

pub loop-left-init : goal.loop-left-init
loop-left-init c = (start id_c _ _ _ _ _ c.requires.0 c.requires.1, refl, refl)

pub mark_id-requires : goal.mark_id-requires
mark_id-requires c = (id_room c.loop-left.invariant.0 c.loop-left-test.true, c.requires.2, c.requires.3, omega (arith, c.loop-left.invariant.1, c.loop-left.invariant.2, c.requires.4.0, c.loop-left-test.true))

pub overflow_add-g : goal.overflow_add-g
overflow_add-g c = omega (arith, c.loop-left.invariant.2, c.requires.4.1, c.loop-left-test.true)

pub loop-left-preserved : goal.loop-left-preserved
loop-left-preserved c = (mark_go (λ z. any? (later false c.args.s.now z 0) c.args.v.now) c.loop-left.invariant.0 (any? (later false c.args.s.now (part 32 (view false c.args.s.now c.args.base) c.loop-left.i) 0) c.args.v.now) c.loop-left-test.true (id_stands c.args.s.now c.args.base (λ j. let f = c.type_inv.s j in omega arith) (id_room c.loop-left.invariant.0 c.loop-left-test.true)) refl c.mark_id.ensures, omega (arith, c.loop-left.invariant.1), omega (arith, c.loop-left.invariant.2, c.loop-left-test.true))

pub shape_of-flags : goal.shape_of-flags
shape_of-flags c = c.loop-left.invariant.1

pub returns : goal.returns
returns c = mark_end (λ z. any? (later false c.args.s.now z 0) c.args.v.now) c.loop-left.invariant.0 (omega arith)

pub overflow_add-i : goal.overflow_add-i
overflow_add-i c = omega (arith, id_room c.loop-left.invariant.0 c.loop-left-test.true, view_raw {hex = false} c.args.s.now c.args.base refl, c.requires.2)
