-- The cycle of calls {walk}: the measure is the number of undecided candidates.
use Rattle.queue.proofs.read.fees.+walk.Given as goal

abbrev pub decreases-walk : goal.decreases-walk
decreases-walk l = l.k
