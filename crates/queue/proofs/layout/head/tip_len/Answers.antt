use Rattle.std.proofs.Common.{arith}
use Rattle.queue.proofs.layout.head.tip_len.Goals as goal

pub returns-in-Some-clause-long : goal.returns-in-Some-clause-long
returns-in-Some-clause-long c = rw c.in-Some.is (omega arith)
