use Rattle.queue.proofs.bytes.PutLaws.{kept, recast, then}
use Rattle.queue.specs.read.ReadingAs.{entry_at}
use Rattle.std.specs.Prelude.{refl}
use Rattle.std.proofs.Common.{arith}
use Rattle.queue.proofs.read.entry.put_entry.Goals as goal

pub copy_part-c-requires : goal.copy_part-c-requires
copy_part-c-requires c = record { read = omega (arith, c.requires.0.ins); written = omega (arith, kept c.copy_part-a.ensures, kept c.put_be-b.ensures, c.copy_part-a.ensures.next, c.put_be-b.ensures.next, c.requires.1) }

pub put_be-d-requires : goal.put_be-d-requires
put_be-d-requires c = omega (arith, kept c.copy_part-a.ensures, kept c.put_be-b.ensures, kept c.copy_part-c.ensures, c.copy_part-a.ensures.next, c.put_be-b.ensures.next, c.copy_part-c.ensures.next, c.requires.1)

pub copy_part-requires : goal.copy_part-requires
copy_part-requires c = record { read = omega (arith, c.requires.0.reads); written = omega (arith, kept c.copy_part-a.ensures, kept c.put_be-b.ensures, kept c.copy_part-c.ensures, kept c.put_be-d.ensures, c.copy_part-a.ensures.next, c.put_be-b.ensures.next, c.copy_part-c.ensures.next, c.put_be-d.ensures.next, c.requires.1) }

pub returns : goal.returns
unfolding entry_at
returns c = recast (then c.copy_part-a.ensures (then c.put_be-b.ensures (then c.copy_part-c.ensures (then c.put_be-d.ensures c.copy_part.ensures)))) refl (omega arith) refl
