use Rattle.queue.proofs.check.ReadsLaws.{passes_held, passes_own}
use Rattle.queue.proofs.check.reads.pass_read.Goals as goal

pub has_id-requires : goal.has_id-requires
has_id-requires c = (c.requires.1, c.requires.2)

pub returns-then-has_id : goal.returns-then-has_id
returns-then-has_id c = passes_own _ c.has_id.ensures c.if-has_id.true

pub held_by-requires : goal.held_by-requires
held_by-requires c = c.requires.0

pub returns : goal.returns
returns c = passes_held _ c.requires.3 c.has_id.ensures c.if-has_id.false c.held_by.ensures
