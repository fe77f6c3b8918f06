use Rattle.queue.proofs.read.PiecesLaws.{guarded_told}
use Rattle.std.proofs.Common.{◌∙◌}
use Rattle.queue.proofs.read.pieces.guarded_ids.Goals as goal

pub returns : goal.returns
returns c = c.told.ensures ∙ guarded_told c.args.area.now c.args.out.now
