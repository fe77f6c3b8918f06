use Rattle.std.specs.Prelude.{◌≡◌, ◌-◌, ◌≤◌, length}
use Rattle.queue.proofs.read.LinksLaws.{wanted_to}
use Rattle.queue.specs.read.LinksAs.{Joined, OutsTo, Zero, outputs_linked}
use Rattle.queue.proofs.read.links.links.Given as goal

abbrev pub invariant-loop-a : goal.invariant-loop-a
invariant-loop-a l = Joined l.w l.initial.bits l.bits (outputs_linked l.s l.at (wanted_to l.s l.at l.a)) × (l.a ≤ length l.at) × (length l.v ≡ length l.initial.v) × (length l.slots ≡ length l.initial.slots) × (length l.t ≡ length l.initial.t) × (l.a ≡ 0 → Zero l.slots) × OutsTo l.s l.at l.outs l.a × (length l.outs ≡ length l.initial.outs)

abbrev pub decreases-loop-a : goal.decreases-loop-a
decreases-loop-a l = length l.at - l.a
