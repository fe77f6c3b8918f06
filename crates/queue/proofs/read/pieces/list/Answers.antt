use Rattle.queue.proofs.read.PiecesLaws.{entries_told}
use Rattle.std.proofs.Common.{◌∙◌}
use Rattle.queue.proofs.read.pieces.list.Goals as goal

pub returns : goal.returns
returns c = c.told.ensures ∙ entries_told c.args.area.now c.args.out.now
