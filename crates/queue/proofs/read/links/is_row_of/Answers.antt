use Rattle.queue.proofs.check.SuspectsRowLaws.{same_row}
use Rattle.std.proofs.Common.{ap, arith, ◌∙◌}
use Rattle.std.specs.Prelude.{length}
use Rattle.queue.proofs.read.LinksLaws.{meets_is, meets_none, meets_same}
use Rattle.queue.proofs.read.links.is_row_of.Goals as goal

pub returns-then-x-eq0 : goal.returns-then-x-eq0
returns-then-x-eq0 c = meets_none c.args.s.now c.args.y c.args.x c.if-x-eq0.true

pub returns-then-len-lt32 : goal.returns-then-len-lt32
returns-then-len-lt32 c = meets_is c.args.s.now c.args.y c.args.x c.if-x-eq0.false (same_row c.cmp_rows.result c.is_eq.ensures c.cmp_rows.ensures)

pub returns-then-len-lt32-2 : goal.returns-then-len-lt32-2
returns-then-len-lt32-2 c = meets_is c.args.s.now c.args.y c.args.x c.if-x-eq0.false (same_row c.cmp_rows-then-len-lt32-2.result c.is_eq-then-len-lt32-2.ensures c.cmp_rows-then-len-lt32-2.ensures)

pub returns : goal.returns
returns c = meets_same c.args.s.now c.args.y c.args.x c.if-x-eq0.false (c.len.ensures.is ∙ ap length c.new-a.ensures) (c.len-2.ensures.is ∙ ap length c.new-b.ensures) (omega (arith, c.if-len-lt32.false)) (omega (arith, c.if-len-lt32-2.false)) (rw c.new-a.ensures at c.id.ensures.is) (rw c.new-b.ensures at c.id-2.ensures.is) c.same_id.ensures
