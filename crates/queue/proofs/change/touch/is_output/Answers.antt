use Rattle.queue.proofs.change.TouchLaws.{out_end, out_go, out_stop}
use Rattle.queue.proofs.layout.TurnLaws.{seen, start, stands}
use Rattle.queue.specs.layout.FormsCodec.{form_c}
use Rattle.queue.specs.layout.FrameCodec.{rec_c}
use Rattle.std.specs.Prelude.{false}
use Rattle.std.proofs.Common.{arith}
use Rattle.queue.proofs.change.touch.is_output.Goals as goal

pub loop-left-init : goal.loop-left-init
loop-left-init c = start (form_c false rec_c) _ _ _ _ _ c.requires.0 c.requires.1

pub in_outputs-requires : goal.in_outputs-requires
in_outputs-requires c = let t = seen false c.loop-left.invariant c.loop-left-test.true c.record_at-x.ensures in (t.is.0.outs_in, t.is.0.outs_all)

pub returns-then-in_outputs : goal.returns-then-in_outputs
returns-then-in_outputs c = out_stop _ c.loop-left.invariant c.loop-left-test.true c.record_at-x.ensures c.in_outputs.ensures c.if-in_outputs.true

pub after_in-i-requires : goal.after_in-i-requires
after_in-i-requires c = (seen false c.loop-left.invariant c.loop-left-test.true c.record_at-x.ensures).is.1.within

pub loop-left-preserved : goal.loop-left-preserved
loop-left-preserved c = out_go _ c.loop-left.invariant c.loop-left-test.true c.record_at-x.ensures c.in_outputs.ensures c.after_in-i.ensures c.if-in_outputs.false

pub returns : goal.returns
returns c = out_end _ c.loop-left.invariant (omega arith)

pub record_at-x-requires : goal.record_at-x-requires
record_at-x-requires c = stands false c.loop-left.invariant c.loop-left-test.true
