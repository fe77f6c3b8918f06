use Rattle.queue.proofs.change.ReconcileLaws.{floor_none, floor_some}
use Rattle.queue.proofs.change.WriteLaws.{floor_needs}
use Rattle.queue.proofs.change.reconcile.floor_for.Goals as goal

pub returns-then-g-eq0 : goal.returns-then-g-eq0
returns-then-g-eq0 c = floor_none c.args.s.now c.args.a c.args.g c.if-g-eq0.true

pub floor-requires : goal.floor-requires
floor-requires c = floor_needs c.requires.0.read c.args.g c.requires.1 c.requires.2

pub returns : goal.returns
returns c = floor_some c.args.s.now c.args.a c.args.g c.if-g-eq0.false c.floor.ensures
