use Rattle.queue.proofs.check.NumbersLaws.{distinct_is, distinct_none}
use Rattle.std.proofs.Common.{sym, arith, length-take-le}
use Rattle.queue.proofs.check.numbers.distinct.Goals as goal

pub returns-then-m-eq0 : goal.returns-then-m-eq0
returns-then-m-eq0 c = distinct_none _ c.requires.1 c.if-m-eq0.true

pub gather-k-requires : goal.gather-k-requires
gather-k-requires c = (c.requires.0, omega (arith, c.requires.1, c.requires.2))

pub slice_bounds-differ-end : goal.slice_bounds-differ-end
slice_bounds-differ-end c = sym (length-take-le _ _ (omega (arith, c.gather-k.ensures.1, c.gather-k.ensures.2)))

pub returns : goal.returns
returns c = distinct_is _ (rw c.gather-k.ensures.0 at c.differ.ensures)
