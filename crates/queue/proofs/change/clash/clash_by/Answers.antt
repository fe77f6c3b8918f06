use Rattle.queue.proofs.change.ClashLaws.{meets_clash, rows_moved}
use Rattle.std.proofs.Common.{◌∙◌}
use Rattle.queue.proofs.change.clash.clash_by.Goals as goal

pub any_meets-requires : goal.any_meets-requires
any_meets-requires c = (c.requires.0, c.requires.1, rows_moved c.order_rows.ensures.same c.requires.2, c.in_order-o.ensures)

pub returns : goal.returns
returns c = c.any_meets.ensures ∙ meets_clash _ _ _
