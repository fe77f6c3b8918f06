use Rattle.std.specs.Prelude.{false, refl}
use Rattle.std.proofs.Common.{arith}
use Rattle.queue.proofs.change.OwnLaws.{marks_end, marks_go, marks_room, misses_end, misses_go}
use Rattle.queue.proofs.layout.TurnLaws.{seen, start, stands}
use Rattle.queue.specs.change.ReopenAs.{ids_at}
use Rattle.queue.specs.layout.FormsCodec.{form_c}
use Rattle.queue.specs.layout.FrameCodec.{rec_c}
use Rattle.queue.specs.paper.Sound.{among?}
use Rattle.queue.proofs.change.own.note_all.Goals as goal

pub loop-left-init : goal.loop-left-init
loop-left-init c = (start (form_c false rec_c) _ _ _ _ _ c.requires.0.0 c.requires.0.1, start (form_c false rec_c) _ _ _ _ _ c.requires.0.0 c.requires.0.1, refl, refl, omega arith)

pub note_ids-requires : goal.note_ids-requires
note_ids-requires c = let t = seen false c.loop-left.invariant.0 c.loop-left-test.true c.record_at-x.ensures in rw c.new-frame.ensures (t.is.0.ins_in, t.is.0.ins_all, c.requires.1, (omega (arith, c.loop-left.invariant.2, c.loop-left.invariant.4, c.requires.2.0, marks_room (λ z. among? z (ids_at c.args.ids.now c.args.m)) c.loop-left.invariant.0 c.loop-left-test.true c.record_at-x.ensures refl), omega (arith, c.loop-left.invariant.4, c.requires.2.1, marks_room (λ z. among? z (ids_at c.args.ids.now c.args.m)) c.loop-left.invariant.0 c.loop-left-test.true c.record_at-x.ensures refl)), omega (arith, c.loop-left.invariant.3, c.requires.3))

pub overflow_add-g : goal.overflow_add-g
overflow_add-g c = omega (arith, c.loop-left.invariant.4, c.requires.2.1, marks_room (λ z. among? z (ids_at c.args.ids.now c.args.m)) c.loop-left.invariant.0 c.loop-left-test.true c.record_at-x.ensures refl)

pub note_ids-requires-in-loop-left : goal.note_ids-requires-in-loop-left
note_ids-requires-in-loop-left c = let t = seen false c.loop-left.invariant.0 c.loop-left-test.true c.record_at-x.ensures in rw c.new-frame.ensures (t.is.0.reads_in, t.is.0.reads_all, c.requires.1, (omega (arith, c.loop-left.invariant.2, c.loop-left.invariant.4, c.requires.2.0, marks_room (λ z. among? z (ids_at c.args.ids.now c.args.m)) c.loop-left.invariant.0 c.loop-left-test.true c.record_at-x.ensures refl), omega (arith, c.loop-left.invariant.4, c.requires.2.1, marks_room (λ z. among? z (ids_at c.args.ids.now c.args.m)) c.loop-left.invariant.0 c.loop-left-test.true c.record_at-x.ensures refl)), omega (arith, c.loop-left.invariant.3, c.requires.3))

pub overflow_add-g-in-loop-left : goal.overflow_add-g-in-loop-left
overflow_add-g-in-loop-left c = omega (arith, c.loop-left.invariant.4, c.requires.2.1, marks_room (λ z. among? z (ids_at c.args.ids.now c.args.m)) c.loop-left.invariant.0 c.loop-left-test.true c.record_at-x.ensures refl)

pub after_in-i-requires : goal.after_in-i-requires
after_in-i-requires c = (seen false c.loop-left.invariant.0 c.loop-left-test.true c.record_at-x.ensures).is.1.within

pub loop-left-preserved : goal.loop-left-preserved
loop-left-preserved c = (marks_go (λ z. among? z (ids_at c.args.ids.now c.args.m)) c.loop-left.invariant.0 c.loop-left-test.true c.record_at-x.ensures c.after_in-i.ensures (rw c.new-frame.ensures at c.note_ids.ensures.0) (rw c.new-frame.ensures at c.note_ids-in-loop-left.ensures.0), misses_go (λ z. among? z (ids_at c.args.ids.now c.args.m)) c.loop-left.invariant.1 c.loop-left-test.true c.record_at-x.ensures c.after_in-i.ensures (rw c.new-frame.ensures at c.note_ids.ensures.1) (rw c.new-frame.ensures at c.note_ids-in-loop-left.ensures.1), omega (arith, c.loop-left.invariant.2), omega (arith, c.loop-left.invariant.3), omega (arith, c.loop-left.invariant.4, marks_room (λ z. among? z (ids_at c.args.ids.now c.args.m)) c.loop-left.invariant.0 c.loop-left-test.true c.record_at-x.ensures c.after_in-i.ensures))

pub shape_of-flags : goal.shape_of-flags
shape_of-flags c = c.loop-left.invariant.2

pub shape_of-t : goal.shape_of-t
shape_of-t c = c.loop-left.invariant.3

pub returns : goal.returns
returns c = (marks_end (λ z. among? z (ids_at c.args.ids.now c.args.m)) c.loop-left.invariant.0 (omega arith), misses_end (λ z. among? z (ids_at c.args.ids.now c.args.m)) c.loop-left.invariant.1 (omega arith))

pub record_at-x-requires : goal.record_at-x-requires
record_at-x-requires c = stands false c.loop-left.invariant.0 c.loop-left-test.true
