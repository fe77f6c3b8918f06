use Rattle.queue.proofs.change.ReconcileLaws.{gone_count, verdicts_fit, whole_plan}
use Rattle.queue.proofs.change.reconcile.plan_whole.Goals as goal

pub floor_for-f-requires : goal.floor_for-f-requires
floor_for-f-requires c = (c.requires.0, gone_count c.requires.0 c.requires.1 c.requires.2 c.requires.3, c.requires.4)

pub order_ranks-ordered-requires : goal.order_ranks-ordered-requires
order_ranks-ordered-requires c = (c.requires.3.placed, c.requires.3.few)

pub plan_judged-requires : goal.plan_judged-requires
plan_judged-requires c = (c.requires.0, verdicts_fit c.requires.0 c.requires.2, (c.requires.3.placed, c.requires.3.few, c.order_ranks-ordered.ensures), c.requires.4, c.requires.5)

pub returns : goal.returns
returns c = (whole_plan c.requires.0 c.requires.1 c.requires.2 c.requires.3 c.floor_for-f.ensures c.plan_judged.ensures.0, c.plan_judged.ensures.1)
