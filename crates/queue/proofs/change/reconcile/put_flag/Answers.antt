use Rattle.queue.proofs.change.ReconcileLaws.{flag_put}
use Rattle.queue.specs.paper.Lists.{one}
use Rattle.std.proofs.Common.{sym, ap}
use Rattle.queue.proofs.change.reconcile.put_flag.Goals as goal

pub returns-then-b : goal.returns-then-b
returns-then-b c = flag_put c.args.b (sym (ap one c.if-b.true)) c.put_u8.ensures

pub returns : goal.returns
returns c = flag_put c.args.b (sym (ap one c.if-b.false)) c.put_u8-2.ensures
