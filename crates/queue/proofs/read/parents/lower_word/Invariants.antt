use Rattle.std.specs.Prelude.{◌≡◌, ◌+◌, ◌-◌, length}
use Rattle.queue.proofs.read.ParentsLaws.{Sweep, down, lower_cons, lower_nil}
use Rattle.queue.specs.read.LinksAs.{Clear}
use Rattle.queue.specs.read.parents.Counters.{lower}
use Rattle.queue.proofs.read.parents.lower_word.Given as goal

abbrev pub invariant-loop-y : goal.invariant-loop-y
invariant-loop-y l = Sweep lower down lower_nil lower_cons l.x l.base l.initial.cs l.y l.j l.cs × (Clear l.from l.initial.cs → Clear l.f l.cs) × (length l.cs ≡ length l.initial.cs)

abbrev pub decreases-loop-y : goal.decreases-loop-y
decreases-loop-y l = l.base + 64 - l.j
