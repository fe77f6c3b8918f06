use Rattle.queue.proofs.change.ReconcileLaws.{cursor_far, cursor_near, low_persisted, move_to}
use Rattle.queue.proofs.change.reconcile.put_cursor.Goals as goal

pub is_far-requires : goal.is_far-requires
is_far-requires c = low_persisted c.requires.0 c.args.height c.args.tip

pub put_moved-requires : goal.put_moved-requires
put_moved-requires c = (move_to c.requires.0 c.args.height c.args.tip c.args.height c.requires.1 c.requires.1 c.requires.2, c.requires.3)

pub returns-then-is_far : goal.returns-then-is_far
returns-then-is_far c = cursor_far c.requires.0 c.args.height c.args.tip c.is_far.ensures c.args.next.now c.if-is_far.true c.put_moved.ensures

pub put_moved-requires-2 : goal.put_moved-requires-2
put_moved-requires-2 c = (move_to c.requires.0 c.args.height c.args.tip c.args.a.persisted (low_persisted c.requires.0 c.args.height c.args.tip) c.requires.1 c.requires.2, c.requires.3)

pub returns : goal.returns
returns c = cursor_near c.requires.0 c.args.height c.args.tip c.is_far.ensures c.args.next.now c.if-is_far.false c.put_moved-2.ensures
