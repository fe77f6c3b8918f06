use Rattle.std.specs.Prelude.{◌≡◌, ◌*◌, length}
use Rattle.queue.proofs.read.LinksLaws.{lines_to}
use Rattle.queue.specs.read.LinksAs.{Linked}
use Rattle.queue.proofs.read.links.link_all.Given as goal

abbrev pub invariant-loop-i : goal.invariant-loop-i
invariant-loop-i l = Linked l.w l.s l.slots l.t l.v l.initial.bits l.bits (lines_to l.s l.at l.i) × (l.o ≡ l.i * l.w) × (length l.bits ≡ length l.initial.bits)
