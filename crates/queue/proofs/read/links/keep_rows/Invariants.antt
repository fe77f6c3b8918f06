use Rattle.std.specs.Prelude.{◌≡◌, ◌≤◌, length, take}
use Rattle.queue.proofs.read.LinksLaws.{wanted_in}
use Rattle.queue.specs.read.LinksAs.{OutsTo, RowsHold}
use Rattle.queue.proofs.read.links.keep_rows.Given as goal

abbrev pub invariant-loop-b : goal.invariant-loop-b
invariant-loop-b l = RowsHold l.s l.slots l.t (take l.k l.v) (wanted_in l.s l.at l.a l.b) × (l.k ≤ length l.initial.v) × (length l.v ≡ length l.initial.v) × (length l.slots ≡ length l.initial.slots) × (length l.t ≡ length l.initial.t) × (l.b ≡ l.a → l.k ≡ 0) × OutsTo l.s l.at l.outs l.b × (length l.outs ≡ length l.initial.outs)
