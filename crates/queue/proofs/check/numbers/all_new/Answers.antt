use Rattle.std.proofs.Common.{arith}
use Rattle.queue.proofs.check.NumbersLaws.{fresh_end, fresh_go, fresh_start}
use Rattle.queue.specs.bytes.ReaderLaws.{false_true}
use Rattle.queue.proofs.check.numbers.all_new.Goals as goal

pub loop-x-init : goal.loop-x-init
loop-x-init c = fresh_start _ _

pub returns-then-seen : goal.returns-then-seen
returns-then-seen c = λ e. false_true e

pub loop-x-preserved : goal.loop-x-preserved
loop-x-preserved c = fresh_go c.args.v.now c.loop-x.t c.loop-x.x-index c.loop-x.invariant c.loop-x-test.true c.seen.ensures.some c.seen.ensures.is c.if-seen.false c.mark.ensures.is

pub returns : goal.returns
returns c = λ _. fresh_end c.args.v.now c.loop-x.t c.loop-x.invariant (omega (arith, c.loop-x-test.false))
