use Rattle.std.specs.Prelude.{◌≡◌, ◌+◌, length}
use Rattle.queue.proofs.read.ParentsLaws.{Words, raise_cons, raise_nil, up}
use Rattle.queue.specs.read.LinksAs.{Few}
use Rattle.queue.specs.read.parents.Counters.{raise}
use Rattle.queue.proofs.read.parents.raise_line.Given as goal

abbrev pub invariant-loop-a : goal.invariant-loop-a
invariant-loop-a l = Words raise up raise_nil raise_cons l.bits l.start l.w l.initial.cs l.a l.j l.cs × Few l.top l.cs × (l.top ≡ l.most + l.j) × (length l.cs ≡ length l.initial.cs)
