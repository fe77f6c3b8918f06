use Rattle.std.specs.Prelude.{get_or, ℕ, ltb, refl}
use Rattle.std.proofs.Common.{arith}
use Rattle.queue.proofs.check.NumbersLaws.{count_end, count_go}
use Rattle.queue.specs.Basics.{one_most}
use Rattle.queue.proofs.check.numbers.count_above.Goals as goal

pub loop-y-init : goal.loop-y-init
loop-y-init c = (omega arith, omega arith)

pub loop-y-preserved : goal.loop-y-preserved
loop-y-preserved c = (count_go (λ (y : ℕ). ltb c.args.x y) c.args.v.now c.loop-y.y-index c.loop-y.total c.loop-y-test.true c.loop-y.invariant.0 refl c.from-total.ensures, omega (arith, c.from-total.ensures, one_most (ltb c.args.x (get_or c.args.v.now c.loop-y.y-index 0)), c.loop-y.invariant.1))

pub returns : goal.returns
returns c = (count_end (λ (y : ℕ). ltb c.args.x y) c.args.v.now c.loop-y.y-index c.loop-y.total (omega (arith, c.loop-y-test.false)) c.loop-y.invariant.0, omega (arith, c.loop-y.invariant.1))
