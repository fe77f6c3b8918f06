use Rattle.std.proofs.Common.{arith}
use Rattle.queue.proofs.read.ParentsLaws.{counting, counting_end, counting_go, counting_room, counting_top}
use Rattle.queue.proofs.read.parents.count_rows.Goals as goal

pub loop-i-init : goal.loop-i-init
loop-i-init c = counting c.args.bits.now c.args.w _ c.requires.3

pub raise_line-requires : goal.raise_line-requires
raise_line-requires c = (counting_room c.loop-i.invariant c.loop-i-test.true c.requires.0, c.requires.1, c.loop-i.invariant.few, (counting_top c.loop-i.invariant c.loop-i-test.true c.requires.2 c.requires.1).0)

pub overflow_add-o : goal.overflow_add-o
overflow_add-o c = omega (arith, (counting_top c.loop-i.invariant c.loop-i-test.true c.requires.2 c.requires.1).1)

pub overflow_mul-top : goal.overflow_mul-top
overflow_mul-top c = omega (arith, c.requires.1)

pub overflow_add-top : goal.overflow_add-top
overflow_add-top c = omega (arith, (counting_top c.loop-i.invariant c.loop-i-test.true c.requires.2 c.requires.1).0)

pub loop-i-preserved : goal.loop-i-preserved
loop-i-preserved c = counting_go c.loop-i.invariant c.loop-i-test.true c.raise_line.ensures.0 c.raise_line.ensures.1

pub shape_of-cs : goal.shape_of-cs
shape_of-cs c = c.loop-i.invariant.size

pub returns : goal.returns
returns c = counting_end c.loop-i.invariant c.loop-i-test.false
