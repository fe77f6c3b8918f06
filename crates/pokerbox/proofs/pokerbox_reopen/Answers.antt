use Rattle.queue.specs.Checked.{reopen_is}
use Rattle.queue.specs.paper.Calls.{gives}
use Rattle.std.proofs.Common.{◌∙◌, ap}
use Rattle.pokerbox.proofs.pokerbox_reopen.Goals as goal

pub returns : goal.returns
returns c = rw c.answered.ensures (ap gives (c.reopen.ensures ∙ reopen_is _ _ _))
