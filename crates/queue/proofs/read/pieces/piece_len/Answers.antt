use Rattle.queue.specs.read.PiecesAs.{piece_len_value}
use Rattle.std.proofs.Common.{arith}
use Rattle.queue.proofs.read.pieces.piece_len.Goals as goal

pub entry_len-requires : goal.entry_len-requires
entry_len-requires c = (omega (arith, c.requires.0), c.requires.1, c.requires.2, c.requires.3)

pub returns-in-Ids : goal.returns-in-Ids
unfolding piece_len_value
returns-in-Ids c = (rw c.in-Ids.is, omega arith)

pub returns-in-Guarded : goal.returns-in-Guarded
unfolding piece_len_value
returns-in-Guarded c = (rw c.in-Guarded.is, omega arith)

pub returns-in-DueBy : goal.returns-in-DueBy
unfolding piece_len_value
returns-in-DueBy c = (rw c.in-DueBy.is, omega arith)

pub returns-in-Confirmed : goal.returns-in-Confirmed
unfolding piece_len_value
returns-in-Confirmed c = (rw c.in-Confirmed.is, omega (arith, c.requires.1))

pub returns-in-Entries : goal.returns-in-Entries
unfolding piece_len_value
returns-in-Entries c = (rw c.in-Entries.is c.entry_len.ensures.0, c.entry_len.ensures.1)
