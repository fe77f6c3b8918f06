use Rattle.queue.specs.read.PiecesAs.{passes_f}
use Rattle.queue.proofs.read.pieces.passes.Goals as goal

pub returns-in-Ids : goal.returns-in-Ids
unfolding passes_f
returns-in-Ids c = rw c.in-Ids.is

pub returns-in-Guarded : goal.returns-in-Guarded
unfolding passes_f
returns-in-Guarded c = rw c.in-Guarded.is

pub returns-in-DueBy : goal.returns-in-DueBy
unfolding passes_f
returns-in-DueBy c = rw c.in-DueBy.is c.is_due.ensures

pub returns-in-Confirmed : goal.returns-in-Confirmed
unfolding passes_f
returns-in-Confirmed c = rw (c.in-Confirmed.is, c.is_some.ensures)

pub returns-in-Entries : goal.returns-in-Entries
unfolding passes_f
returns-in-Entries c = rw c.in-Entries.is
