use Rattle.queue.proofs.read.PiecesLaws.{conf_told}
use Rattle.std.proofs.Common.{◌∙◌}
use Rattle.queue.proofs.read.pieces.confirmations.Goals as goal

pub returns : goal.returns
returns c = c.told.ensures ∙ conf_told c.args.area.now c.args.out.now
