use Rattle.std.specs.Prelude.{refl}
use Rattle.std.proofs.Common.{arith}
use Rattle.queue.proofs.change.OwnLaws.{mark_end, mark_go, miss_end, miss_go}
use Rattle.queue.proofs.layout.TurnLaws.{start, id_room}
use Rattle.queue.specs.change.ReopenAs.{ids_at}
use Rattle.queue.specs.layout.FrameCodec.{id_c}
use Rattle.queue.specs.paper.Sound.{among?}
use Rattle.queue.proofs.change.own.note_ids.Goals as goal

pub loop-left-init : goal.loop-left-init
loop-left-init c = (start id_c _ _ _ _ _ c.requires.0 c.requires.1, start id_c _ _ _ _ _ c.requires.0 c.requires.1, refl, refl, refl)

pub find_lent-found-requires : goal.find_lent-found-requires
find_lent-found-requires c = c.requires.2

pub note_id-requires : goal.note_id-requires
note_id-requires c = (omega (arith, c.loop-left.invariant.2, c.loop-left.invariant.4, c.requires.3.0, c.loop-left-test.true), omega (arith, c.loop-left.invariant.3, c.requires.4))

pub overflow_add-g : goal.overflow_add-g
overflow_add-g c = omega (arith, c.loop-left.invariant.4, c.requires.3.1, c.loop-left-test.true)

pub loop-left-preserved : goal.loop-left-preserved
loop-left-preserved c = (mark_go (λ z. among? z (ids_at c.args.ids.now c.args.m)) c.loop-left.invariant.0 c.find_lent-found.result c.loop-left-test.true c.id-id.ensures.found c.find_lent-found.ensures c.note_id.ensures.0, miss_go (λ z. among? z (ids_at c.args.ids.now c.args.m)) c.loop-left.invariant.1 c.find_lent-found.result c.loop-left-test.true c.id-id.ensures.found c.find_lent-found.ensures c.note_id.ensures.1, omega (arith, c.loop-left.invariant.2), omega (arith, c.loop-left.invariant.3), omega (arith, c.loop-left.invariant.4, c.loop-left-test.true))

pub shape_of-flags : goal.shape_of-flags
shape_of-flags c = c.loop-left.invariant.2

pub shape_of-t : goal.shape_of-t
shape_of-t c = c.loop-left.invariant.3

pub returns : goal.returns
returns c = (mark_end (λ z. among? z (ids_at c.args.ids.now c.args.m)) c.loop-left.invariant.0 (omega arith), miss_end (λ z. among? z (ids_at c.args.ids.now c.args.m)) c.loop-left.invariant.1 (omega arith))

pub id-id-requires : goal.id-id-requires
id-id-requires c = id_room c.loop-left.invariant.0 c.loop-left-test.true
