use Rattle.queue.proofs.bytes.PutLaws.{kept}
use Rattle.queue.proofs.read.FeesLaws.{best_100, best_4}
use Rattle.std.proofs.Common.{arith}
use Rattle.queue.proofs.read.fees.put_best.Goals as goal

pub returns-then-out-n : goal.returns-then-out-n
returns-then-out-n c = best_4 c.args.s.now c.args.out.now c.args.b c.args.picked.now c.requires.0 c.if-out-n.true

pub put_be-c-requires : goal.put_be-c-requires
put_be-c-requires c = omega (arith, c.if-out-n.false)

pub put_be-d-requires : goal.put_be-d-requires
put_be-d-requires c = omega (arith, c.if-out-n.false, c.put_be-c.ensures.next, kept c.put_be-c.ensures)

pub put_be-e-requires : goal.put_be-e-requires
put_be-e-requires c = omega (arith, c.if-out-n.false, c.put_be-c.ensures.next, kept c.put_be-c.ensures, c.put_be-d.ensures.next, kept c.put_be-d.ensures)

pub put_be-f-requires : goal.put_be-f-requires
put_be-f-requires c = omega (arith, c.if-out-n.false, c.put_be-c.ensures.next, kept c.put_be-c.ensures, c.put_be-d.ensures.next, kept c.put_be-d.ensures, c.put_be-e.ensures.next, kept c.put_be-e.ensures)

pub put_ids-requires : goal.put_ids-requires
put_ids-requires c = (c.requires.0, omega (arith, c.if-out-n.false, c.put_be-c.ensures.next, kept c.put_be-c.ensures, c.put_be-d.ensures.next, kept c.put_be-d.ensures, c.put_be-e.ensures.next, kept c.put_be-e.ensures, c.put_be-f.ensures.next, kept c.put_be-f.ensures))

pub returns : goal.returns
returns c = best_100 c.args.s.now c.args.out.now c.args.b c.args.picked.now c.requires.0 (omega (arith, c.well_formed)) (omega (arith, c.requires.2)) (omega (arith, c.well_formed)) (omega (arith, c.requires.1)) c.if-out-n.false c.put_be-c.ensures c.put_be-d.ensures c.put_be-e.ensures c.put_be-f.ensures c.put_ids.ensures
