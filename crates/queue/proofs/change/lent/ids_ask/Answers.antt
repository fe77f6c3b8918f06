use Rattle.queue.proofs.change.LentLaws.{ids_no, ids_rise}
use Rattle.queue.proofs.change.ReopenLaws.{lent_in}
use Rattle.std.specs.Prelude.{length}
use Rattle.std.proofs.Common.{ap, ◌∙◌}
use Rattle.queue.proofs.change.lent.ids_ask.Goals as goal

pub returns-then-n-ne0 : goal.returns-then-n-ne0
returns-then-n-ne0 c = ids_no c.args.ids.now (c.len-n.ensures.is ∙ ap length c.new.ensures) c.if-n-ne0.true

pub rise-requires : goal.rise-requires
rise-requires c = lent_in c.args.ids.now (c.len-n.ensures.is ∙ ap length c.new.ensures) (rw c.new.ensures at c.len-n.ensures.bytes) c.if-n-ne0.false

pub returns : goal.returns
returns c = ids_rise c.args.ids.now (c.len-n.ensures.is ∙ ap length c.new.ensures) (rw c.new.ensures at c.len-n.ensures.bytes) c.if-n-ne0.false c.rise.ensures
