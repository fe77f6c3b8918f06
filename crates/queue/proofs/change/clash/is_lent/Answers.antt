use Rattle.std.proofs.Common.{◌∙◌, arith}
use Rattle.queue.proofs.change.clash.is_lent.Goals as goal

pub has_row-requires : goal.has_row-requires
has_row-requires c = c.requires.2 c.if-ordered.true

pub returns-then-ordered : goal.returns-then-ordered
returns-then-ordered c = c.has_row.ensures ∙ c.requires.1.has c.args.id

pub has_id-requires : goal.has_id-requires
has_id-requires c = rw c.new.ensures (omega arith, c.requires.0)

pub returns : goal.returns
returns c = rw c.new.ensures at c.has_id.ensures
