use Rattle.std.specs.Prelude.{◌+◌, ◌≤◌, length}
use Rattle.std.proofs.Common.{arith}
use Rattle.queue.proofs.bytes.PutLaws.{kept}
use Rattle.queue.proofs.layout.HeadLaws.{tip_none, tip_put}
use Rattle.queue.proofs.layout.head.put_tip.Goals as goal

pub put_u8-a-requires : goal.put_u8-a-requires
put_u8-a-requires c = let h : c.args.at + 33 ≤ length c.args.dst.now = rw c.in-Some.is at c.requires in omega arith

pub put_id-requires : goal.put_id-requires
put_id-requires c = let h : c.args.at + 33 ≤ length c.args.dst.now = rw c.in-Some.is at c.requires in omega (arith, kept c.put_u8-a.ensures, c.put_u8-a.ensures.next)

pub returns-in-Some : goal.returns-in-Some
returns-in-Some c = tip_put c.in-Some.is c.put_u8-a.ensures c.put_id.ensures

pub put_u8-requires : goal.put_u8-requires
put_u8-requires c = let h : c.args.at + 1 ≤ length c.args.dst.now = rw c.in-None.is at c.requires in omega arith

pub returns-in-None : goal.returns-in-None
returns-in-None c = tip_none c.in-None.is c.put_u8.ensures
