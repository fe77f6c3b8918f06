use Rattle.queue.specs.check.NumbersAs.{new_above_value}
use Rattle.std.proofs.Common.{arith, le-ltb, lt-ltb}
use Rattle.queue.proofs.check.numbers.new_above.Goals as goal

pub returns-then-x-num : goal.returns-then-x-num
unfolding new_above_value
returns-then-x-num c = (rw (lt-ltb _ _ c.if-x-num.true), omega arith)

pub returns-then-x-num-2 : goal.returns-then-x-num-2
unfolding new_above_value
returns-then-x-num-2 c = (rw (le-ltb _ _ c.if-x-num.false, lt-ltb _ _ c.if-x-num-2.true), omega arith)

pub returns : goal.returns
unfolding new_above_value
returns c = (rw (le-ltb _ _ c.if-x-num.false, le-ltb _ _ c.if-x-num-2.false), omega arith)
