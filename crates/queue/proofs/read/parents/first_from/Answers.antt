use Rattle.std.proofs.Common.{arith}
use Rattle.queue.proofs.read.ParentsLaws.{first_end, first_here, first_on}
use Rattle.queue.proofs.read.parents.first_from.Goals as goal

pub loop-i-init : goal.loop-i-init
loop-i-init c = c.requires

pub offset_bounds-cs-i : goal.offset_bounds-cs-i
offset_bounds-cs-i c = omega (arith, c.loop-i-test.true)

pub bounds-cs-i : goal.bounds-cs-i
bounds-cs-i c = omega (arith, c.loop-i-test.true)

pub returns-then-cs-i-eq1 : goal.returns-then-cs-i-eq1
returns-then-cs-i-eq1 c = first_here c.loop-i.invariant c.loop-i-test.true c.if-cs-i-eq1.true

pub loop-i-preserved : goal.loop-i-preserved
loop-i-preserved c = first_on c.loop-i.i c.loop-i.invariant c.if-cs-i-eq1.false

pub returns : goal.returns
returns c = first_end c.loop-i.invariant c.loop-i-test.false
