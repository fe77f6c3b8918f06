use Rattle.std.specs.Prelude.{refl}
use Rattle.std.proofs.Common.{arith}
use Rattle.queue.proofs.check.SuspectsRowLaws.{any_end, any_go, any_stop}
use Rattle.queue.proofs.check.suspects.look_all.Goals as goal

pub loop-x-init : goal.loop-x-init
loop-x-init c = refl

pub returns-then-is_later : goal.returns-then-is_later
returns-then-is_later c = any_stop _ c.args.v.now c.loop-x.x-index c.loop-x.invariant c.loop-x-test.true c.is_later.ensures c.if-is_later.true

pub loop-x-preserved : goal.loop-x-preserved
loop-x-preserved c = any_go _ c.args.v.now c.loop-x.x-index c.loop-x.invariant c.loop-x-test.true c.is_later.ensures c.if-is_later.false

pub returns : goal.returns
returns c = any_end _ c.args.v.now c.loop-x.x-index c.loop-x.invariant (omega (arith, c.loop-x-test.false))
