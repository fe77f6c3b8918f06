use Rattle.queue.specs.Checked.{reconcile_is}
use Rattle.queue.specs.paper.Calls.{gives}
use Rattle.std.proofs.Common.{◌∙◌, ap}
use Rattle.pokerbox.proofs.pokerbox_reconcile.Goals as goal

pub returns : goal.returns
returns c = rw c.answered.ensures (ap gives (c.reconcile.ensures ∙ reconcile_is _ _ _ _))
