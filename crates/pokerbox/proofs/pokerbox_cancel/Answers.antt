use Rattle.queue.specs.Checked.{cancel_is}
use Rattle.queue.specs.paper.Calls.{gives}
use Rattle.std.proofs.Common.{◌∙◌, ap}
use Rattle.pokerbox.proofs.pokerbox_cancel.Goals as goal

pub returns : goal.returns
returns c = rw c.answered.ensures (ap gives (c.cancel.ensures ∙ cancel_is _ _ _ _))
