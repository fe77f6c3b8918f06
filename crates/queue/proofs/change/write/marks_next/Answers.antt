use Rattle.queue.proofs.change.write.marks_next.Goals as goal

pub returns : goal.returns
returns c = rw c.wrapping_add_u64.ensures.value
