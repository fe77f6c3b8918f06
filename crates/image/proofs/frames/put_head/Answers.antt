use Rattle.image.proofs.ImageLaws.{head_bytes_law, head_in_law, head_long}
use Rattle.queue.proofs.bytes.PutLaws.{kept, sized, then}
use Rattle.std.proofs.Common.{arith}
use Rattle.image.proofs.frames.put_head.Goals as goal

pub overflow_sub-from : goal.overflow_sub-from
overflow_sub-from c = (head_in_law c.args.kind c.requires.is).0

pub put_u8-a-requires : goal.put_u8-a-requires
put_u8-a-requires c = omega (arith, c.requires.room, head_long c.args.kind c.requires.is)

pub put_limits-b-requires : goal.put_limits-b-requires
put_limits-b-requires c = (omega (arith, c.requires.room, head_long c.args.kind c.requires.is, c.put_u8-a.ensures.next, kept c.put_u8-a.ensures), c.requires.is.fit)

pub overflow_sub-h : goal.overflow_sub-h
overflow_sub-h c = (head_in_law c.args.kind c.requires.is).1

pub copy_view-requires-clause-read : goal.copy_view-requires-clause-read
copy_view-requires-clause-read c = omega (arith, (head_in_law c.args.kind c.requires.is).1, (head_in_law c.args.kind c.requires.is).2)

pub copy_view-requires-clause-written : goal.copy_view-requires-clause-written
copy_view-requires-clause-written c = omega (arith, c.requires.room, head_long c.args.kind c.requires.is, c.put_u8-a.ensures.next, kept c.put_u8-a.ensures, c.put_limits-b.ensures.next, kept c.put_limits-b.ensures)

pub returns : goal.returns
returns c = λ h w. sized (then (then c.put_u8-a.ensures c.put_limits-b.ensures) c.copy_view.ensures) (head_bytes_law c.args.kind w)
