use Rattle.queue.proofs.change.ClashLaws.{meet_end, meet_go, meet_seen, meet_stop}
use Rattle.queue.proofs.layout.TurnLaws.{seen, stands, start}
use Rattle.queue.specs.layout.FormsCodec.{form_c}
use Rattle.queue.specs.layout.FrameCodec.{rec_c}
use Rattle.std.specs.Prelude.{false}
use Rattle.std.proofs.Common.{arith}
use Rattle.queue.proofs.change.clash.any_meets.Goals as goal

pub loop-left-init : goal.loop-left-init
loop-left-init c = start (form_c false rec_c) _ _ _ _ _ c.requires.0.0 c.requires.0.1

pub meets-requires : goal.meets-requires
meets-requires c = (meet_seen c.args.read _ c.loop-left.invariant c.loop-left-test.true c.record_at-x.ensures, c.requires.1, c.requires.2, c.requires.3)

pub returns-then-meets : goal.returns-then-meets
returns-then-meets c = meet_stop c.args.read _ c.loop-left.invariant c.loop-left-test.true c.record_at-x.ensures c.meets.ensures c.if-meets.true

pub after_in-i-requires : goal.after_in-i-requires
after_in-i-requires c = (seen false c.loop-left.invariant c.loop-left-test.true c.record_at-x.ensures).is.1.within

pub loop-left-preserved : goal.loop-left-preserved
loop-left-preserved c = meet_go c.args.read _ c.loop-left.invariant c.loop-left-test.true c.record_at-x.ensures c.meets.ensures c.after_in-i.ensures c.if-meets.false

pub returns : goal.returns
returns c = meet_end c.args.read _ c.loop-left.invariant (omega arith)

pub record_at-x-requires : goal.record_at-x-requires
record_at-x-requires c = stands false c.loop-left.invariant c.loop-left-test.true
