use Rattle.queue.proofs.RefusalLaws.{unsound}
use Rattle.queue.proofs.bytes.PutLaws.{kept}
use Rattle.queue.proofs.check.AreaLaws.{recs_stand}
use Rattle.queue.proofs.read.PiecesLaws.{answer_100, answer_4, told_3}
use Rattle.std.proofs.Common.{arith}
use Rattle.queue.proofs.read.pieces.told.Goals as goal

pub returns-in_err-a : goal.returns-in_err-a
returns-in_err-a c = rw (unsound _ c.from_residual.ensures.1 c.in_err-a.ensures) (told_3 c.args.w c.args.area.now c.args.out.now c.in_err-a.ensures.is)

pub measure-m-requires : goal.measure-m-requires
measure-m-requires c = let w = c.in_ok-a.ensures.read.store in (recs_stand w, w.head.count_small)

pub overflow_add-m : goal.overflow_add-m
overflow_add-m c = let w = c.in_ok-a.ensures.read.store in omega (arith, c.measure-m.ensures.most, w.head.count_small)

pub returns-then-out-m : goal.returns-then-out-m
returns-then-out-m c = answer_4 c.args.w c.args.area.now c.args.out.now c.in_ok-a.ensures c.measure-m.ensures c.if-out-m.true

pub put_be-p-requires : goal.put_be-p-requires
put_be-p-requires c = omega (arith, c.if-out-m.false)

pub put_pieces-requires : goal.put_pieces-requires
put_pieces-requires c = let w = c.in_ok-a.ensures.read.store in (recs_stand w, omega (arith, c.if-out-m.false, kept c.put_be-p.ensures, c.put_be-p.ensures.next, c.measure-m.ensures.size))

pub returns : goal.returns
returns c = answer_100 c.args.w c.args.area.now c.args.out.now c.in_ok-a.ensures c.measure-m.ensures c.if-out-m.false c.put_be-p.ensures c.put_pieces.ensures
