use Rattle.std.specs.Prelude.{◌-◌, length}
use Rattle.queue.proofs.read.FeesWalkLaws.{Sums}
use Rattle.queue.specs.read.FeesAs.{fees_of, sizes_of}
use Rattle.queue.proofs.read.fees.fit.Given as goal

abbrev pub invariant-loop-i : goal.invariant-loop-i
invariant-loop-i l = Sums (sizes_of l.candidates) (fees_of l.candidates) l.k l.left l.sum (length l.candidates - l.i)
