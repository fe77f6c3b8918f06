use Rattle.queue.proofs.read.FeesLaws.{Filling}
use Rattle.queue.proofs.read.fees.fill.Given as goal

abbrev pub invariant-loop-j : goal.invariant-loop-j
invariant-loop-j l = Filling l.s l.at l.candidates l.j
