use Rattle.std.specs.Prelude.{◌≡◌, length}
use Rattle.queue.proofs.read.LinksLaws.{Running}
use Rattle.queue.proofs.read.links.link_run.Given as goal

abbrev pub invariant-loop-k : goal.invariant-loop-k
invariant-loop-k l = Running l.s l.v l.y l.l.width l.l.row l.initial.bits l.k l.bits × (length l.bits ≡ length l.initial.bits)
