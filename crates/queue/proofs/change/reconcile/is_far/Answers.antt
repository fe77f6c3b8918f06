use Rattle.queue.proofs.change.ReconcileLaws.{far_low, far_top}
use Rattle.std.specs.Prelude.{refl}
use Rattle.std.proofs.Common.{arith}
use Rattle.queue.proofs.change.reconcile.is_far.Goals as goal

pub returns-then-n-le4294967295 : goal.returns-then-n-le4294967295
returns-then-n-le4294967295 c = far_low c.args.persisted.0 c.args.height.0 c.if-n-le4294967295.true refl

pub returns : goal.returns
returns c = far_top c.args.persisted.0 c.args.height.0 (omega arith) refl
