use Rattle.std.proofs.Common.{arith}
use Rattle.queue.proofs.check.SuspectsRowLaws.{order_go}
use Rattle.queue.specs.bytes.ReaderLaws.{false_true}
use Rattle.queue.proofs.check.suspects.in_order.Goals as goal

pub loop-i-init : goal.loop-i-init
loop-i-init c = λ j h. absurd (let z : ⊥ = omega arith in z)

pub returns-then-not-up_to : goal.returns-then-not-up_to
returns-then-not-up_to c = λ e. false_true e

pub loop-i-preserved : goal.loop-i-preserved
loop-i-preserved c = order_go c.args.hex c.args.s.now c.args.v.now c.loop-i.invariant (omega arith) c.up_to.ensures c.if-not-up_to.false

pub returns : goal.returns
returns c = λ _. record { next = λ j h. c.loop-i.invariant j (omega (arith, c.loop-i-test.false)) h }
