use Rattle.queue.specs.check.FilterAs.{marked}
use Rattle.queue.proofs.check.filter.seen.Goals as goal

pub returns : goal.returns
unfolding marked
returns c = simp (c.slot-i.ensures.0, c.mask-m.ensures)
