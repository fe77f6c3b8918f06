use Rattle.queue.specs.change.PlanAs.{reason_f}
use Rattle.std.proofs.Common.{eq-eqb, ne_eqb}
use Rattle.queue.proofs.change.write.reason_again.Goals as goal

pub returns-then-f : goal.returns-then-f
unfolding reason_f
returns-then-f c = rw (eq-eqb _ _ c.if-f-eq0.true, c.if-f.true)

pub returns-then-f-eq0 : goal.returns-then-f-eq0
unfolding reason_f
returns-then-f-eq0 c = rw (eq-eqb _ _ c.if-f-eq0.true, c.if-f.false)

pub returns-then-f-2 : goal.returns-then-f-2
unfolding reason_f
returns-then-f-2 c = rw (ne_eqb _ _ c.if-f-eq0.false, eq-eqb _ _ c.if-f-2.true)

pub returns-then-f-3 : goal.returns-then-f-3
unfolding reason_f
returns-then-f-3 c = rw (ne_eqb _ _ c.if-f-eq0.false, ne_eqb _ _ c.if-f-2.false, eq-eqb _ _ c.if-f-3.true)

pub returns-else-f-3 : goal.returns-else-f-3
unfolding reason_f
returns-else-f-3 c = rw (ne_eqb _ _ c.if-f-eq0.false, ne_eqb _ _ c.if-f-2.false, ne_eqb _ _ c.if-f-3.false)
