use Rattle.queue.proofs.change.ClashLaws.{row_long, row_short}
use Rattle.std.specs.Prelude.{length}
use Rattle.std.proofs.Common.{ap, ◌∙◌, arith}
use Rattle.queue.proofs.change.clash.cmp_row.Goals as goal

pub returns-then-len-lt32 : goal.returns-then-len-lt32
returns-then-len-lt32 c = row_short c.args.ids.now c.args.x c.args.id (c.len.ensures.is ∙ ap length c.new-v.ensures) (omega arith) c.if-len-lt32.true

pub id-requires : goal.id-requires
id-requires c = omega (arith, c.len.ensures.is, c.if-len-lt32.false)

pub returns : goal.returns
returns c = row_long c.args.ids.now c.args.x c.args.id (c.len.ensures.is ∙ ap length c.new-v.ensures) c.if-len-lt32.false (rw c.new-v.ensures at c.id.ensures.is) c.compare_ids.ensures
