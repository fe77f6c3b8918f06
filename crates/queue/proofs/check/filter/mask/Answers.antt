use Rattle.queue.specs.check.FilterAs.{mask_l}
use Rattle.queue.proofs.check.filter.mask.Goals as goal

pub returns : goal.returns
unfolding mask_l
returns c = simp (c.bit-a.ensures, c.bit-b.ensures, c.bit-c.ensures, c.bit-d.ensures)
