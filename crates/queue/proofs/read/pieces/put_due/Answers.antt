use Rattle.queue.proofs.bytes.PutLaws.{then}
use Rattle.queue.specs.read.PiecesAs.{due_at}
use Rattle.queue.proofs.read.pieces.put_due.Goals as goal

pub returns : goal.returns
unfolding due_at
returns c = then c.copy_part-a.ensures c.copy_part.ensures
