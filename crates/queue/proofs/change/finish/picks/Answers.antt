use Rattle.queue.specs.change.FinishAs.{picked_s}
use Rattle.queue.proofs.change.finish.picks.Goals as goal

pub returns-in-Named : goal.returns-in-Named
unfolding picked_s
returns-in-Named c = rw (c.in-Named.is, ← c.same_id.ensures)

pub returns-in-Due : goal.returns-in-Due
unfolding picked_s
returns-in-Due c = rw c.in-Due.is c.is_due.ensures
