use Rattle.queue.specs.paper.Calls.{gives}
use Rattle.std.proofs.Common.{◌∙◌, ap}
use Rattle.pokerbox.proofs.pokerbox_deadline_due.Goals as goal

pub returns : goal.returns
returns c = c.answered_test.ensures ∙ ap gives (c.deadline_due.ensures _)
