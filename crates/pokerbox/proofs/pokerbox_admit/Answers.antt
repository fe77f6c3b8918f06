use Rattle.queue.specs.Checked.{admit_is}
use Rattle.queue.specs.paper.Calls.{gives}
use Rattle.std.proofs.Common.{◌∙◌, ap}
use Rattle.pokerbox.proofs.pokerbox_admit.Goals as goal

pub returns : goal.returns
returns c = rw c.answered.ensures (ap gives (c.admit.ensures ∙ admit_is _ _ _ _))
