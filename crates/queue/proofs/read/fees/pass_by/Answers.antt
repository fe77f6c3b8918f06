use Rattle.queue.proofs.read.FeesWalkLaws.{pass_less, pass_more}
use Rattle.queue.proofs.read.fees.pass_by.Goals as goal

pub returns-then-bound-b : goal.returns-then-bound-b
returns-then-bound-b c = pass_more c.args.b c.args.x c.if-bound-b.true

pub returns-else-bound-b : goal.returns-else-bound-b
returns-else-bound-b c = pass_less c.args.b c.args.x c.if-bound-b.false
