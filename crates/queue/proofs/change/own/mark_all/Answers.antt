use Rattle.std.specs.Prelude.{false, refl}
use Rattle.std.proofs.Common.{arith}
use Rattle.queue.proofs.change.OwnLaws.{marks_end, marks_go, marks_room}
use Rattle.queue.proofs.layout.TurnLaws.{seen, start, stands}
use Rattle.queue.specs.check.SuspectsAs.{later}
use Rattle.queue.specs.layout.FormsCodec.{form_c}
use Rattle.queue.specs.layout.FrameCodec.{rec_c}
use Rattle.queue.specs.paper.Lists.{any?}
use Rattle.queue.proofs.change.own.mark_all.Goals as goal

pub loop-left-init : goal.loop-left-init
loop-left-init c = (start (form_c false rec_c) _ _ _ _ _ c.requires.0.0 c.requires.0.1, refl, omega arith)

pub mark_ids-requires : goal.mark_ids-requires
mark_ids-requires c = let t = seen false c.loop-left.invariant.0 c.loop-left-test.true c.record_at-x.ensures in (t.is.0.ins_in, t.is.0.ins_all, c.requires.1, c.requires.2, (omega (arith, c.loop-left.invariant.1, c.loop-left.invariant.2, c.requires.3.0, marks_room (λ z. any? (later false c.args.s.now z 0) c.args.v.now) c.loop-left.invariant.0 c.loop-left-test.true c.record_at-x.ensures refl), omega (arith, c.loop-left.invariant.2, c.requires.3.1, marks_room (λ z. any? (later false c.args.s.now z 0) c.args.v.now) c.loop-left.invariant.0 c.loop-left-test.true c.record_at-x.ensures refl)))

pub overflow_add-g : goal.overflow_add-g
overflow_add-g c = omega (arith, c.loop-left.invariant.2, c.requires.3.1, marks_room (λ z. any? (later false c.args.s.now z 0) c.args.v.now) c.loop-left.invariant.0 c.loop-left-test.true c.record_at-x.ensures refl)

pub mark_ids-requires-in-loop-left : goal.mark_ids-requires-in-loop-left
mark_ids-requires-in-loop-left c = let t = seen false c.loop-left.invariant.0 c.loop-left-test.true c.record_at-x.ensures in (t.is.0.reads_in, t.is.0.reads_all, c.requires.1, c.requires.2, (omega (arith, c.loop-left.invariant.1, c.loop-left.invariant.2, c.requires.3.0, marks_room (λ z. any? (later false c.args.s.now z 0) c.args.v.now) c.loop-left.invariant.0 c.loop-left-test.true c.record_at-x.ensures refl), omega (arith, c.loop-left.invariant.2, c.requires.3.1, marks_room (λ z. any? (later false c.args.s.now z 0) c.args.v.now) c.loop-left.invariant.0 c.loop-left-test.true c.record_at-x.ensures refl)))

pub overflow_add-g-in-loop-left : goal.overflow_add-g-in-loop-left
overflow_add-g-in-loop-left c = omega (arith, c.loop-left.invariant.2, c.requires.3.1, marks_room (λ z. any? (later false c.args.s.now z 0) c.args.v.now) c.loop-left.invariant.0 c.loop-left-test.true c.record_at-x.ensures refl)

pub after_in-i-requires : goal.after_in-i-requires
after_in-i-requires c = (seen false c.loop-left.invariant.0 c.loop-left-test.true c.record_at-x.ensures).is.1.within

pub loop-left-preserved : goal.loop-left-preserved
loop-left-preserved c = (marks_go (λ z. any? (later false c.args.s.now z 0) c.args.v.now) c.loop-left.invariant.0 c.loop-left-test.true c.record_at-x.ensures c.after_in-i.ensures c.mark_ids.ensures c.mark_ids-in-loop-left.ensures, omega (arith, c.loop-left.invariant.1), omega (arith, c.loop-left.invariant.2, marks_room (λ z. any? (later false c.args.s.now z 0) c.args.v.now) c.loop-left.invariant.0 c.loop-left-test.true c.record_at-x.ensures c.after_in-i.ensures))

pub shape_of-flags : goal.shape_of-flags
shape_of-flags c = c.loop-left.invariant.1

pub returns : goal.returns
returns c = marks_end (λ z. any? (later false c.args.s.now z 0) c.args.v.now) c.loop-left.invariant.0 (omega arith)

pub record_at-x-requires : goal.record_at-x-requires
record_at-x-requires c = stands false c.loop-left.invariant.0 c.loop-left-test.true
