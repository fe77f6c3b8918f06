use Rattle.queue.specs.read.LinksAs.{Clear}
use Rattle.queue.proofs.read.parents.first_from.Given as goal

abbrev pub invariant-loop-i : goal.invariant-loop-i
invariant-loop-i l = Clear l.i l.cs
