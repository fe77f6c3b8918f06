use Rattle.std.proofs.Common.{arith}
use Rattle.queue.proofs.read.LinksLaws.{thinning, thinning_end, thinning_go}
use Rattle.queue.proofs.read.links.thin.Goals as goal

pub loop-i-init : goal.loop-i-init
loop-i-init c = thinning c.args.s.now c.args.v.now

pub add_once-k-requires : goal.add_once-k-requires
add_once-k-requires c = omega (arith, c.loop-i.invariant.up, c.loop-i.invariant.size, c.loop-i-test.true)

pub loop-i-preserved : goal.loop-i-preserved
loop-i-preserved c = thinning_go c.loop-i.invariant (omega (arith, c.loop-i-test.true)) c.add_once-k.ensures

pub returns : goal.returns
returns c = thinning_end c.loop-i.invariant (omega (arith, c.loop-i-test.false))
