use Rattle.std.specs.Prelude.{◌-◌, length}
use Rattle.queue.proofs.read.FeesSearchLaws.{Room}
use Rattle.queue.specs.read.FeesAs.{fees_of}
use Rattle.queue.proofs.read.fees.fees_fit.Given as goal

abbrev pub invariant-loop-c : goal.invariant-loop-c
invariant-loop-c l = Room (fees_of l.candidates) l.room (length l.candidates - l.c-index)
