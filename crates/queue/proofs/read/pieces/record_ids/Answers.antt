use Rattle.queue.proofs.read.PiecesLaws.{ids_told}
use Rattle.std.proofs.Common.{◌∙◌}
use Rattle.queue.proofs.read.pieces.record_ids.Goals as goal

pub returns : goal.returns
returns c = c.told.ensures ∙ ids_told c.args.area.now c.args.out.now
