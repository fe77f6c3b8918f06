use Rattle.queue.specs.read.PiecesAs.{piece_at, piece_len_value}
use Rattle.std.proofs.Common.{arith}
use Rattle.queue.proofs.read.pieces.put_piece.Goals as goal

pub copy_part-requires : goal.copy_part-requires
unfolding piece_len_value
copy_part-requires c = let h = rw c.in-Ids.is at c.requires.1 in record { read = omega (arith, c.requires.0.id); written = omega arith }

pub copy_part-requires-in-Guarded : goal.copy_part-requires-in-Guarded
unfolding piece_len_value
copy_part-requires-in-Guarded c = let h = rw c.in-Guarded.is at c.requires.1 in record { read = omega (arith, c.requires.0.id); written = omega arith }

pub put_due-requires : goal.put_due-requires
unfolding piece_len_value
put_due-requires c = let h = rw c.in-DueBy.is at c.requires.1 in (omega (arith, c.requires.0.id), omega arith)

pub put_confirmed-requires : goal.put_confirmed-requires
put_confirmed-requires c = (c.requires.0, rw c.in-Confirmed.is at c.requires.1)

pub put_entry-requires : goal.put_entry-requires
unfolding piece_len_value
put_entry-requires c = (c.requires.0.entry, rw c.in-Entries.is at c.requires.1)

pub returns-in-Ids : goal.returns-in-Ids
unfolding piece_at piece_len_value
returns-in-Ids c = rw c.in-Ids.is c.copy_part.ensures

pub returns-in-Guarded : goal.returns-in-Guarded
unfolding piece_at piece_len_value
returns-in-Guarded c = rw c.in-Guarded.is c.copy_part-in-Guarded.ensures

pub returns-in-DueBy : goal.returns-in-DueBy
unfolding piece_at piece_len_value
returns-in-DueBy c = rw c.in-DueBy.is c.put_due.ensures

pub returns-in-Confirmed : goal.returns-in-Confirmed
returns-in-Confirmed c = rw c.in-Confirmed.is c.put_confirmed.ensures

pub returns-in-Entries : goal.returns-in-Entries
unfolding piece_at piece_len_value
returns-in-Entries c = rw c.in-Entries.is c.put_entry.ensures
