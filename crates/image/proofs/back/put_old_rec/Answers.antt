use Rattle.image.proofs.BackLaws.{cut_in, old_in, old_line, old_size}
use Rattle.queue.proofs.bytes.PutLaws.{kept, sized, then}
use Rattle.std.proofs.Common.{◌∙◌, arith}
use Rattle.image.proofs.back.put_old_rec.Goals as goal

pub cut_at-c-requires : goal.cut_at-c-requires
cut_at-c-requires c = cut_in c.requires.is c.requires.frame c.requires.said

pub copy_text-a-requires-clause-read : goal.copy_text-a-requires-clause-read
copy_text-a-requires-clause-read c = let i = old_in c.requires.is c.requires.frame c.requires.said c.cut_at-c.ensures in omega (arith, i.0, i.1, i.2, i.3, i.4)

pub copy_text-a-requires-clause-written : goal.copy_text-a-requires-clause-written
copy_text-a-requires-clause-written c = let i = old_in c.requires.is c.requires.frame c.requires.said c.cut_at-c.ensures in omega (arith, c.requires.room, old_size c.requires.is c.requires.frame c.requires.said c.cut_at-c.ensures)

pub overflow_sub-c : goal.overflow_sub-c
overflow_sub-c c = (old_in c.requires.is c.requires.frame c.requires.said c.cut_at-c.ensures).0

pub copy_text-b-requires-clause-read : goal.copy_text-b-requires-clause-read
copy_text-b-requires-clause-read c = let i = old_in c.requires.is c.requires.frame c.requires.said c.cut_at-c.ensures in omega (arith, i.0, i.1, i.2, i.3, i.4)

pub copy_text-b-requires-clause-written : goal.copy_text-b-requires-clause-written
copy_text-b-requires-clause-written c = let i = old_in c.requires.is c.requires.frame c.requires.said c.cut_at-c.ensures in omega (arith, c.requires.room, old_size c.requires.is c.requires.frame c.requires.said c.cut_at-c.ensures, c.copy_text-a.ensures.next, kept c.copy_text-a.ensures)

pub overflow_sub-c-2 : goal.overflow_sub-c-2
overflow_sub-c-2 c = (old_in c.requires.is c.requires.frame c.requires.said c.cut_at-c.ensures).1

pub copy_text-d-requires-clause-read : goal.copy_text-d-requires-clause-read
copy_text-d-requires-clause-read c = let i = old_in c.requires.is c.requires.frame c.requires.said c.cut_at-c.ensures in omega (arith, i.1, i.2, i.3, i.4)

pub copy_text-d-requires-clause-written : goal.copy_text-d-requires-clause-written
copy_text-d-requires-clause-written c = let i = old_in c.requires.is c.requires.frame c.requires.said c.cut_at-c.ensures in omega (arith, c.requires.room, old_size c.requires.is c.requires.frame c.requires.said c.cut_at-c.ensures, c.copy_text-a.ensures.next, kept c.copy_text-a.ensures, c.copy_text-b.ensures.next, kept c.copy_text-b.ensures)

pub overflow_sub-x : goal.overflow_sub-x
overflow_sub-x c = (old_in c.requires.is c.requires.frame c.requires.said c.cut_at-c.ensures).3

pub copy_text-e-requires-clause-read : goal.copy_text-e-requires-clause-read
copy_text-e-requires-clause-read c = let i = old_in c.requires.is c.requires.frame c.requires.said c.cut_at-c.ensures in omega (arith, i.3, i.4)

pub copy_text-e-requires-clause-written : goal.copy_text-e-requires-clause-written
copy_text-e-requires-clause-written c = let i = old_in c.requires.is c.requires.frame c.requires.said c.cut_at-c.ensures in omega (arith, c.requires.room, old_size c.requires.is c.requires.frame c.requires.said c.cut_at-c.ensures, c.copy_text-a.ensures.next, kept c.copy_text-a.ensures, c.copy_text-b.ensures.next, kept c.copy_text-b.ensures, c.copy_text-d.ensures.next, kept c.copy_text-d.ensures)

pub put_u8-requires : goal.put_u8-requires
put_u8-requires c = omega (arith, c.requires.room, old_size c.requires.is c.requires.frame c.requires.said c.cut_at-c.ensures, c.copy_text-a.ensures.next, kept c.copy_text-a.ensures, c.copy_text-b.ensures.next, kept c.copy_text-b.ensures, c.copy_text-d.ensures.next, kept c.copy_text-d.ensures, c.copy_text-e.ensures.next, kept c.copy_text-e.ensures)

pub shape_of-dst : goal.shape_of-dst
shape_of-dst c = kept c.put_u8.ensures ∙ kept c.copy_text-e.ensures ∙ kept c.copy_text-d.ensures ∙ kept c.copy_text-b.ensures ∙ kept c.copy_text-a.ensures

pub returns : goal.returns
returns c = λ y w f q. sized (then (then (then (then c.copy_text-a.ensures c.copy_text-b.ensures) c.copy_text-d.ensures) c.copy_text-e.ensures) c.put_u8.ensures) (old_line w f q c.cut_at-c.ensures)
