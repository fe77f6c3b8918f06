use Rattle.std.proofs.Common.{arith}
use Rattle.queue.proofs.read.FeesLaws.{picking_end, picking_go, picking_start}
use Rattle.queue.proofs.read.fees.pick.Goals as goal

pub loop-p-init : goal.loop-p-init
loop-p-init c = picking_start _ _ c.requires.1

pub add_place-g-requires : goal.add_place-g-requires
add_place-g-requires c = omega (arith, c.loop-p.invariant.few, c.loop-p.invariant.len, c.requires.0, c.loop-p-test.true)

pub loop-p-preserved : goal.loop-p-preserved
loop-p-preserved c = picking_go c.loop-p.invariant c.loop-p-test.true c.requires.0 c.add_place-g.ensures

pub returns : goal.returns
returns c = (omega (arith, c.loop-p.invariant.few, c.loop-p.invariant.upto, c.requires.0), c.loop-p.invariant.len, picking_end c.loop-p.invariant c.loop-p-test.false)
