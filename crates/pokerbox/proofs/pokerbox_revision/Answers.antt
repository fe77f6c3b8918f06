use Rattle.queue.specs.paper.Calls.{gives}
use Rattle.std.proofs.Common.{◌∙◌, ap}
use Rattle.pokerbox.proofs.pokerbox_revision.Goals as goal

pub returns : goal.returns
returns c = c.answered_number.ensures ∙ ap gives (c.revision.ensures _)
