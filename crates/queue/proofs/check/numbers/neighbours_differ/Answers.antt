use Rattle.std.proofs.Common.{arith}
use Rattle.queue.proofs.check.NumbersLaws.{ordered_at, steps_go, steps_same, steps_up}
use Rattle.queue.proofs.check.numbers.neighbours_differ.Goals as goal

pub loop-i-init : goal.loop-i-init
loop-i-init c = λ j h. absurd (let z : ⊥ = omega arith in z)

pub returns-then-a-b : goal.returns-then-a-b
returns-then-a-b c = steps_same c.args.v.now (omega arith) c.loop-i-test.true c.if-a-b.true

pub loop-i-preserved : goal.loop-i-preserved
loop-i-preserved c = steps_go c.args.v.now c.loop-i.invariant (omega arith) c.if-a-b.false (ordered_at c.args.v.now c.requires (omega arith) c.loop-i-test.true)

pub returns : goal.returns
returns c = steps_up c.args.v.now c.loop-i.invariant (omega (arith, c.loop-i-test.false))
