use Rattle.queue.specs.Checked.{set_cursor_is}
use Rattle.queue.specs.paper.Calls.{gives}
use Rattle.std.proofs.Common.{◌∙◌, ap}
use Rattle.pokerbox.proofs.pokerbox_set_cursor.Goals as goal

pub returns : goal.returns
returns c = rw c.answered.ensures (ap gives (c.set_cursor.ensures ∙ set_cursor_is _ _ _ _ _))
