use Rattle.queue.proofs.read.LinksLaws.{Thinning}
use Rattle.queue.proofs.read.links.thin.Given as goal

abbrev pub invariant-loop-i : goal.invariant-loop-i
invariant-loop-i l = Thinning l.s l.initial.v l.i l.k l.v
