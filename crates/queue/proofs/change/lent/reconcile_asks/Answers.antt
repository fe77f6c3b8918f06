use Rattle.queue.proofs.change.LentLaws.{asked}
use Rattle.std.specs.Prelude.{length, refl}
use Rattle.std.proofs.Common.{ap, ◌∙◌}
use Rattle.queue.proofs.change.lent.reconcile_asks.Goals as goal

pub returns : goal.returns
returns c = asked c.args.tip.now c.args.flag c.args.t.now c.args.ids.now refl refl refl (c.len-n.ensures.is ∙ ap length c.new.ensures) (rw c.new.ensures at c.len-n.ensures.bytes) c.entries_ask-b.ensures c.ids_ask-c.ensures
