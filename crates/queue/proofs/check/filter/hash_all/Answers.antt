use Rattle.queue.specs.check.FilterAs.{hash_all_value}
use Rattle.queue.specs.bytes.ViewAs.{view}
use Rattle.queue.proofs.check.filter.hash_all.Goals as goal

pub returns : goal.returns
unfolding hash_all_value view
returns c = simp (c.wrapping_add_u64-h.ensures.value, c.wrapping_add_u64-y.ensures.value, c.wrapping_add_u64-x.ensures.value, c.word-a.ensures, c.word-b.ensures, c.word-c.ensures, c.word-d.ensures)
