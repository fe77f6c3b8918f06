use Rattle.queue.proofs.bytes.PutLaws.{kept, then}
use Rattle.queue.specs.read.PiecesAs.{piece_at, piece_len_value}
use Rattle.std.proofs.Common.{arith}
use Rattle.queue.proofs.read.pieces.put_confirmed.Goals as goal

pub copy_part-a-requires : goal.copy_part-a-requires
unfolding piece_len_value
copy_part-a-requires c = record { read = omega (arith, c.requires.0.id); written = omega (arith, c.requires.1) }

pub copy_part-requires : goal.copy_part-requires
unfolding piece_len_value
copy_part-requires c = record { read = omega (arith, c.requires.0.up, c.requires.0.entry.within); written = omega (arith, c.requires.1, kept c.copy_part-a.ensures, c.copy_part-a.ensures.next, c.requires.0.up) }

pub returns : goal.returns
unfolding piece_at piece_len_value
returns c = then c.copy_part-a.ensures c.copy_part.ensures
