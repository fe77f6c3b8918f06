use Rattle.queue.specs.change.PlanAs.{row_of}
use Rattle.queue.proofs.change.plan.row_of.Goals as goal

pub returns : goal.returns
unfolding row_of
returns c = rw c.of_number.ensures
