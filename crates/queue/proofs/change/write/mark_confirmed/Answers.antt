use Rattle.std.proofs.Common.{arith}
use Rattle.queue.proofs.change.write.mark_confirmed.Goals as goal

pub returns-then-f-released : goal.returns-then-f-released
returns-then-f-released c = (rw c.if-f-released.true, omega arith)

pub returns-then-f : goal.returns-then-f
returns-then-f c = (rw (c.if-f-released.false, c.if-f.true), c.requires.0)

pub returns : goal.returns
returns c = (rw (c.if-f-released.false, c.if-f.false), c.requires.1)
