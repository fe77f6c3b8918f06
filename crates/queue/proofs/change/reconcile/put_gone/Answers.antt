use Rattle.queue.proofs.bytes.PutLaws.{kept}
use Rattle.queue.proofs.change.ReconcileLaws.{gone_put}
use Rattle.std.proofs.Common.{arith}
use Rattle.queue.proofs.change.reconcile.put_gone.Goals as goal

pub put_be-b-requires : goal.put_be-b-requires
put_be-b-requires c = omega (arith, c.requires.2, c.put_flag-a.ensures.next, kept c.put_flag-a.ensures)

pub put_ids-requires : goal.put_ids-requires
put_ids-requires c = (c.requires.0, omega (arith, c.requires.2, c.put_flag-a.ensures.next, kept c.put_flag-a.ensures, c.put_be-b.ensures.next, kept c.put_be-b.ensures))

pub returns : goal.returns
returns c = gone_put c.args.s.now c.args.changed c.args.gone.now c.put_flag-a.ensures c.put_be-b.ensures c.put_ids.ensures
