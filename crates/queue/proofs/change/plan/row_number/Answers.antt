use Rattle.queue.proofs.change.PlanLaws.{row_packs}
use Rattle.queue.specs.change.PlanAs.{row_numbers}
use Rattle.std.proofs.Common.{arith}
use Rattle.queue.proofs.change.plan.row_number.Goals as goal

pub overflow_mul-result : goal.overflow_mul-result
overflow_mul-result c = omega (arith, c.requires.place, c.requires.index, c.requires.rank, c.requires.what)

pub overflow_add-result : goal.overflow_add-result
overflow_add-result c = omega (arith, c.requires.place, c.requires.index, c.requires.rank, c.requires.what)

pub overflow_mul-result-2 : goal.overflow_mul-result-2
overflow_mul-result-2 c = omega (arith, c.requires.place, c.requires.index, c.requires.rank, c.requires.what)

pub overflow_add-result-2 : goal.overflow_add-result-2
overflow_add-result-2 c = omega (arith, c.requires.place, c.requires.index, c.requires.rank, c.requires.what)

pub overflow_mul-result-3 : goal.overflow_mul-result-3
overflow_mul-result-3 c = omega (arith, c.requires.place, c.requires.index, c.requires.rank, c.requires.what)

pub overflow_add-result-3 : goal.overflow_add-result-3
overflow_add-result-3 c = omega (arith, c.requires.place, c.requires.index, c.requires.rank, c.requires.what, c.from.ensures)

pub returns : goal.returns
returns c = row_packs (row_numbers c.args.x) c.requires (omega (arith, c.from.ensures))
