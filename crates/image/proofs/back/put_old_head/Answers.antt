use Rattle.image.proofs.BackLaws.{old_head_in, old_head_line, old_head_size}
use Rattle.queue.proofs.bytes.PutLaws.{kept, sized, then}
use Rattle.std.proofs.Common.{arith}
use Rattle.image.proofs.back.put_old_head.Goals as goal

pub overflow_sub-from : goal.overflow_sub-from
overflow_sub-from c = (old_head_in c.requires.is).0

pub put_u8-a-requires : goal.put_u8-a-requires
put_u8-a-requires c = omega (arith, c.requires.room, old_head_size c.requires.is)

pub put_u8-b-requires : goal.put_u8-b-requires
put_u8-b-requires c = omega (arith, c.requires.room, old_head_size c.requires.is, c.put_u8-a.ensures.next, kept c.put_u8-a.ensures)

pub copy_text-c-requires-clause-read : goal.copy_text-c-requires-clause-read
copy_text-c-requires-clause-read c = let i = old_head_in c.requires.is in i.1

pub copy_text-c-requires-clause-written : goal.copy_text-c-requires-clause-written
copy_text-c-requires-clause-written c = let i = old_head_in c.requires.is in omega (arith, c.requires.room, old_head_size c.requires.is, c.put_u8-a.ensures.next, kept c.put_u8-a.ensures, c.put_u8-b.ensures.next, kept c.put_u8-b.ensures)

pub overflow_sub-h : goal.overflow_sub-h
overflow_sub-h c = (old_head_in c.requires.is).2

pub copy_text-d-requires-clause-read : goal.copy_text-d-requires-clause-read
copy_text-d-requires-clause-read c = let i = old_head_in c.requires.is in omega (arith, i.2, i.3)

pub copy_text-d-requires-clause-written : goal.copy_text-d-requires-clause-written
copy_text-d-requires-clause-written c = let i = old_head_in c.requires.is in omega (arith, c.requires.room, old_head_size c.requires.is, c.put_u8-a.ensures.next, kept c.put_u8-a.ensures, c.put_u8-b.ensures.next, kept c.put_u8-b.ensures, c.copy_text-c.ensures.next, kept c.copy_text-c.ensures)

pub put_u8-requires : goal.put_u8-requires
put_u8-requires c = omega (arith, c.requires.room, old_head_size c.requires.is, c.put_u8-a.ensures.next, kept c.put_u8-a.ensures, c.put_u8-b.ensures.next, kept c.put_u8-b.ensures, c.copy_text-c.ensures.next, kept c.copy_text-c.ensures, c.copy_text-d.ensures.next, kept c.copy_text-d.ensures)

pub returns : goal.returns
returns c = λ h w. sized (then (then (then (then c.put_u8-a.ensures c.put_u8-b.ensures) c.copy_text-c.ensures) c.copy_text-d.ensures) c.put_u8.ensures) (old_head_line w)
