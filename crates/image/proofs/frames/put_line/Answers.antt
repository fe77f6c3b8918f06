use Rattle.queue.proofs.bytes.PutLaws.{kept, then}
use Rattle.std.proofs.Common.{arith}
use Rattle.image.proofs.frames.put_line.Goals as goal

pub copy_text-e-requires-clause-read : goal.copy_text-e-requires-clause-read
copy_text-e-requires-clause-read c = omega (arith, c.requires.0)

pub copy_text-e-requires-clause-written : goal.copy_text-e-requires-clause-written
copy_text-e-requires-clause-written c = omega (arith, c.requires.1)

pub put_u8-requires : goal.put_u8-requires
put_u8-requires c = omega (arith, c.requires.1, c.copy_text-e.ensures.next, kept c.copy_text-e.ensures)

pub returns : goal.returns
returns c = then c.copy_text-e.ensures c.put_u8.ensures
