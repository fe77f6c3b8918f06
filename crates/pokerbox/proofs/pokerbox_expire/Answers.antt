use Rattle.queue.specs.Checked.{expire_is}
use Rattle.queue.specs.paper.Calls.{gives}
use Rattle.std.proofs.Common.{◌∙◌, ap}
use Rattle.pokerbox.proofs.pokerbox_expire.Goals as goal

pub returns : goal.returns
returns c = rw c.answered.ensures (ap gives (c.expire.ensures ∙ expire_is _ _ _ _ _))
