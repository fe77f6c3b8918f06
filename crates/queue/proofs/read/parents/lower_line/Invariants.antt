use Rattle.std.specs.Prelude.{◌≡◌, length}
use Rattle.queue.proofs.read.ParentsLaws.{Words, down, lower_cons, lower_nil}
use Rattle.queue.specs.read.LinksAs.{Clear}
use Rattle.queue.specs.read.parents.Counters.{lower}
use Rattle.queue.proofs.read.parents.lower_line.Given as goal

abbrev pub invariant-loop-a : goal.invariant-loop-a
invariant-loop-a l = Words lower down lower_nil lower_cons l.bits l.start l.w l.initial.cs l.a l.j l.cs × (Clear l.from l.initial.cs → Clear l.f l.cs) × (length l.cs ≡ length l.initial.cs)
