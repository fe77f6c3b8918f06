use Rattle.std.specs.Prelude.{◌≡◌, ◌+◌, ◌-◌, length}
use Rattle.queue.proofs.read.ParentsLaws.{Sweep, raise_cons, raise_nil, up}
use Rattle.queue.specs.read.LinksAs.{Few}
use Rattle.queue.specs.read.parents.Counters.{raise}
use Rattle.queue.proofs.read.parents.raise_word.Given as goal

abbrev pub invariant-loop-y : goal.invariant-loop-y
invariant-loop-y l = Sweep raise up raise_nil raise_cons l.x l.base l.initial.cs l.y l.j l.cs × Few (l.most + (l.j - l.base)) l.cs × (length l.cs ≡ length l.initial.cs)

abbrev pub decreases-loop-y : goal.decreases-loop-y
decreases-loop-y l = l.base + 64 - l.j
