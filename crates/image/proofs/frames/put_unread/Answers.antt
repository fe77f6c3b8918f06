use Rattle.queue.proofs.bytes.PutByteLaws.{be_same}
use Rattle.queue.proofs.bytes.PutLaws.{nothing, recast}
use Rattle.std.proofs.Common.{arith}
use Rattle.std.specs.Prelude.{refl}
use Rattle.image.proofs.frames.put_unread.Goals as goal

pub put_be-requires : goal.put_be-requires
put_be-requires c = omega (arith, rw c.if-holder.true at c.requires)

pub returns-then-holder : goal.returns-then-holder
returns-then-holder c = rw c.if-holder.true (recast c.put_be.ensures (be_same 2 0 (omega arith)) refl refl)

pub returns : goal.returns
returns c = rw c.if-holder.false (nothing _ _)
