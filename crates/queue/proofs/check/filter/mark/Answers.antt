use Rattle.queue.specs.check.FilterAs.{mark_l}
use Rattle.queue.proofs.check.filter.mark.Goals as goal

pub returns : goal.returns
unfolding mark_l
returns c = simp (c.slot-i.ensures.0, c.mask-m.ensures)
