use Rattle.queue.proofs.change.WriteLaws.{tip_here, tip_none, tip_room}
use Rattle.queue.specs.bytes.ViewAs.{view}
use Rattle.std.specs.Prelude.{false}
use Rattle.std.proofs.Common.{arith}
use Rattle.queue.proofs.change.write.tip_at.Goals as goal

pub id-requires : goal.id-requires
id-requires c = rw c.new.ensures (let h = tip_room (view false c.args.s.now 4) c.requires.0 c.args.h c.requires.1 c.requires.2 c.if-h.true in omega arith)

pub returns-then-h : goal.returns-then-h
returns-then-h c = λ x w o. tip_here (view false c.args.s.now 4) x c.args.h w o c.if-h.true (rw c.new.ensures at c.id.ensures.is)

pub returns : goal.returns
returns c = λ x w o. tip_none (view false c.args.s.now 4) x c.args.h w c.if-h.false
