use Rattle.queue.proofs.read.PiecesLaws.{due_told}
use Rattle.std.proofs.Common.{◌∙◌}
use Rattle.queue.proofs.read.pieces.due.Goals as goal

pub returns : goal.returns
returns c = c.told.ensures ∙ due_told c.args.time c.args.height c.args.area.now c.args.out.now
