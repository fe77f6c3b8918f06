use Rattle.queue.specs.check.FilterAs.{hash_l}
use Rattle.queue.specs.bytes.ViewAs.{view}
use Rattle.queue.proofs.check.filter.hash.Goals as goal

pub returns : goal.returns
unfolding hash_l view
returns c = simp (c.wrapping_add_u64.ensures.value, c.word-a.ensures, c.word-b.ensures)
