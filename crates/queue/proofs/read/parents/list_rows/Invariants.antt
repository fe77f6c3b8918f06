use Rattle.std.specs.Prelude.{length}
use Rattle.queue.proofs.read.ParentsLaws.{Listing}
use Rattle.queue.proofs.read.parents.list_rows.Given as goal

abbrev pub invariant-loop-m : goal.invariant-loop-m
invariant-loop-m l = Listing l.at l.bits l.w l.initial.cs (length l.initial.picked) l.cs l.picked l.m l.from
