use Rattle.queue.proofs.read.FeesWalkLaws.{visit_less, visit_more}
use Rattle.queue.proofs.read.fees.visit.Goals as goal

pub returns-then-x-fee : goal.returns-then-x-fee
returns-then-x-fee c = visit_more c.args.set c.args.fee c.args.x c.if-x-fee.true

pub returns : goal.returns
returns c = visit_less c.args.set c.args.fee c.args.x c.if-x-fee.false
