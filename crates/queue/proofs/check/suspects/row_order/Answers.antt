use Rattle.queue.proofs.check.SuspectsRowLaws.{goes_higher, goes_lower, goes_same}
use Rattle.std.specs.Prelude.{refl}
use Rattle.std.proofs.Common.{arith}
use Rattle.queue.proofs.check.suspects.row_order.Goals as goal

pub returns-in-Less : goal.returns-in-Less
returns-in-Less c = goes_lower c.args.hex c.args.s.now c.args.x c.args.y (rw c.in-Less.is at c.cmp_rows.ensures) refl

pub returns-in-Equal : goal.returns-in-Equal
returns-in-Equal c = goes_same c.args.hex c.args.s.now c.args.x c.args.y (rw c.in-Equal.is at c.cmp_rows.ensures) refl c.cmp.ensures

pub returns-in-Greater : goal.returns-in-Greater
returns-in-Greater c = goes_higher c.args.hex c.args.s.now c.args.x c.args.y (rw c.in-Greater.is at c.cmp_rows.ensures) (λ e. omega arith) (λ e. omega arith)
