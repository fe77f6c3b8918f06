use Rattle.queue.specs.paper.Calls.{gives}
use Rattle.std.proofs.Common.{◌∙◌, ap}
use Rattle.pokerbox.proofs.pokerbox_observed_height.Goals as goal

pub returns : goal.returns
returns c = c.answered_number.ensures ∙ ap gives (c.observed_height.ensures _)
