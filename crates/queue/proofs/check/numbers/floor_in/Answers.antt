use Rattle.std.proofs.Common.{arith}
use Rattle.queue.proofs.check.NumbersLaws.{search_end, search_high, search_low, search_start}
use Rattle.queue.proofs.check.numbers.floor_in.Goals as goal

pub loop-lo-init : goal.loop-lo-init
loop-lo-init c = search_start _ _ _ _ c.requires.3 c.requires.4

pub overflow_add-a : goal.overflow_add-a
overflow_add-a c = omega (arith, c.count_above-a.ensures.1, c.new_above.ensures.1, c.requires.0, c.requires.1)

pub loop-lo-preserved-then-a-new_above : goal.loop-lo-preserved-then-a-new_above
loop-lo-preserved-then-a-new_above c = search_high _ _ _ c.loop-lo.invariant (omega arith) c.count_above-a.ensures.0 c.new_above.ensures.0 (omega arith) c.if-a-new_above.true

pub loop-lo-preserved : goal.loop-lo-preserved
loop-lo-preserved c = search_low _ _ _ c.loop-lo.invariant (omega arith) c.count_above-a.ensures.0 c.new_above.ensures.0 c.if-a-new_above.false

pub returns : goal.returns
returns c = search_end c.loop-lo.invariant (omega arith)
