use Rattle.queue.proofs.check.NumbersLaws.{Fresh}
use Rattle.queue.proofs.check.numbers.all_new.Given as goal

abbrev pub invariant-loop-x : goal.invariant-loop-x
invariant-loop-x l = Fresh l.v l.t l.x-index
