use Rattle.std.specs.Prelude.{false}
use Rattle.std.proofs.Common.{arith}
use Rattle.queue.proofs.check.ScanLaws.{tally_end, tally_go}
use Rattle.queue.proofs.layout.TurnLaws.{seen, stands, start}
use Rattle.queue.specs.layout.FormsCodec.{form_c}
use Rattle.queue.specs.layout.FrameCodec.{rec_c}
use Rattle.queue.proofs.check.scan.tally.Goals as goal

pub loop-left-init : goal.loop-left-init
loop-left-init c = (start (form_c false rec_c) _ _ _ _ _ c.requires.0.0 c.requires.0.1, omega arith)

pub weigh-total-requires : goal.weigh-total-requires
weigh-total-requires c = (seen false c.loop-left.invariant.0 c.loop-left-test.true c.record_at-x.ensures).is.0.small.bytes

pub overflow_add-total : goal.overflow_add-total
overflow_add-total c = omega (arith, c.loop-left.invariant.1, c.weigh-total.ensures.1)

pub after_in-i-requires : goal.after_in-i-requires
after_in-i-requires c = (seen false c.loop-left.invariant.0 c.loop-left-test.true c.record_at-x.ensures).is.1.within

pub loop-left-preserved : goal.loop-left-preserved
loop-left-preserved c = (tally_go false _ c.loop-left.invariant.0 c.loop-left-test.true c.record_at-x.ensures c.after_in-i.ensures c.weigh-total.ensures.0, omega (arith, c.loop-left.invariant.1, c.weigh-total.ensures.1))

pub returns : goal.returns
returns c = (tally_end false _ c.loop-left.invariant.0 (omega arith), omega (arith, c.loop-left.invariant.1))

pub record_at-x-requires : goal.record_at-x-requires
record_at-x-requires c = stands false c.loop-left.invariant.0 c.loop-left-test.true
