use Rattle.queue.proofs.read.FeesLaws.{Picking}
use Rattle.queue.proofs.read.fees.pick.Given as goal

abbrev pub invariant-loop-p : goal.invariant-loop-p
invariant-loop-p l = Picking l.at l.set l.picked l.p-index l.g l.m
