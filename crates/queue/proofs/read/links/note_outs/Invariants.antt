use Rattle.std.specs.Prelude.{◌≡◌, length}
use Rattle.queue.specs.read.LinksAs.{OutsTo}
use Rattle.queue.proofs.read.links.note_outs.Given as goal

abbrev pub invariant-loop-i : goal.invariant-loop-i
invariant-loop-i l = OutsTo l.s l.at l.outs l.i × (length l.outs ≡ length l.initial.outs)
