use Rattle.queue.proofs.read.ParentsLaws.{Counting}
use Rattle.queue.proofs.read.parents.count_rows.Given as goal

abbrev pub invariant-loop-i : goal.invariant-loop-i
invariant-loop-i l = Counting l.bits l.w l.initial.cs l.i l.o l.top l.cs
