use Rattle.queue.specs.paper.Calls.{gives}
use Rattle.pokerbox.proofs.ExportLaws.{sized}
use Rattle.std.proofs.Common.{◌∙◌, ap}
use Rattle.pokerbox.proofs.pokerbox_convert.Goals as goal

pub returns : goal.returns
returns c = sized c.convert.result _ _ c.answered_number.ensures ∙ ap gives (c.convert.ensures _)
