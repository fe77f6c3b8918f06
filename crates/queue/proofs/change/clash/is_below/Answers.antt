use Rattle.queue.proofs.change.IdLaws.{lower}
use Rattle.queue.proofs.change.clash.is_below.Goals as goal

pub returns : goal.returns
returns c = lower c.cmp_row.result c.is_lt.ensures c.cmp_row.ensures
