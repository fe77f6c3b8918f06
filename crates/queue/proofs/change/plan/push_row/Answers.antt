use Rattle.queue.proofs.change.PlanLaws.{row_idle, row_more}
use Rattle.queue.proofs.change.plan.push_row.Goals as goal

pub row_number-w-requires : goal.row_number-w-requires
row_number-w-requires c = c.requires.1

pub returns-then-is_idle : goal.returns-then-is_idle
returns-then-is_idle c = row_idle c.row_number-w.result c.row_number-w.ensures c.is_idle.ensures c.if-is_idle.true

pub bounds-rows-k : goal.bounds-rows-k
bounds-rows-k c = c.requires.0

pub returns : goal.returns
returns c = row_more c.row_number-w.result c.row_number-w.ensures c.is_idle.ensures c.if-is_idle.false c.requires.0
