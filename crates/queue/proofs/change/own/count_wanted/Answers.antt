use Rattle.std.specs.Prelude.{false}
use Rattle.std.proofs.Common.{arith}
use Rattle.queue.proofs.change.OwnLaws.{wanted_end, wanted_go, wanted_from}
use Rattle.queue.proofs.layout.TurnLaws.{seen, start, stands}
use Rattle.queue.specs.layout.FormsCodec.{form_c}
use Rattle.queue.specs.layout.FrameCodec.{rec_c}
use Rattle.queue.proofs.change.own.count_wanted.Goals as goal

pub loop-left-init : goal.loop-left-init
loop-left-init c = (start (form_c false rec_c) wanted_from _ _ _ _ c.requires.0.0 c.requires.0.1, omega arith)

pub overflow_add-total : goal.overflow_add-total
overflow_add-total c = omega (arith, c.loop-left.invariant.1, (seen false c.loop-left.invariant.0 c.loop-left-test.true c.record_at-x.ensures).is.0.small.ins, (seen false c.loop-left.invariant.0 c.loop-left-test.true c.record_at-x.ensures).is.0.small.reads, c.requires.1)

pub overflow_add-total-in-loop-left : goal.overflow_add-total-in-loop-left
overflow_add-total-in-loop-left c = omega (arith, c.loop-left.invariant.1, (seen false c.loop-left.invariant.0 c.loop-left-test.true c.record_at-x.ensures).is.0.small.ins, (seen false c.loop-left.invariant.0 c.loop-left-test.true c.record_at-x.ensures).is.0.small.reads, c.requires.1)

pub after_in-i-requires : goal.after_in-i-requires
after_in-i-requires c = (seen false c.loop-left.invariant.0 c.loop-left-test.true c.record_at-x.ensures).is.1.within

pub loop-left-preserved : goal.loop-left-preserved
loop-left-preserved c = (wanted_go c.loop-left.invariant.0 c.loop-left-test.true c.record_at-x.ensures c.after_in-i.ensures, omega (arith, c.loop-left.invariant.1, (seen false c.loop-left.invariant.0 c.loop-left-test.true c.record_at-x.ensures).is.0.small.ins, (seen false c.loop-left.invariant.0 c.loop-left-test.true c.record_at-x.ensures).is.0.small.reads))

pub returns : goal.returns
returns c = (wanted_end c.loop-left.invariant.0 (omega arith), omega (arith, c.loop-left.invariant.1))

pub record_at-x-requires : goal.record_at-x-requires
record_at-x-requires c = stands false c.loop-left.invariant.0 c.loop-left-test.true
