use Rattle.queue.proofs.change.LentLaws.{entries_are, entries_long, entries_no}
use Rattle.std.specs.Prelude.{length}
use Rattle.std.proofs.Common.{ap, ◌∙◌}
use Rattle.queue.proofs.change.lent.entries_ask.Goals as goal

pub returns-then-n-ne0 : goal.returns-then-n-ne0
returns-then-n-ne0 c = entries_no c.args.t.now (c.len-n.ensures.is ∙ ap length c.new.ensures) (rw c.new.ensures at c.len-n.ensures.bytes) c.if-n-ne0.true

pub entries_rise-requires : goal.entries_rise-requires
entries_rise-requires c = entries_long c.args.t.now (c.len-n.ensures.is ∙ ap length c.new.ensures) (rw c.new.ensures at c.len-n.ensures.bytes) c.if-n-ne0.false

pub returns : goal.returns
returns c = entries_are c.args.t.now (c.len-n.ensures.is ∙ ap length c.new.ensures) (rw c.new.ensures at c.len-n.ensures.bytes) c.if-n-ne0.false c.entries_rise.ensures
