use Rattle.queue.proofs.change.PlanLaws.{number_0, number_1}
use Rattle.queue.proofs.change.plan.number_of.Goals as goal

pub returns-then-rank-eq0 : goal.returns-then-rank-eq0
returns-then-rank-eq0 c = number_0 c.args.counter.0 c.args.rank c.if-rank-eq0.true

pub returns : goal.returns
returns c = number_1 c.args.counter.0 c.args.rank c.if-rank-eq0.false
