use Rattle.queue.proofs.change.ReopenLaws.{ListPlan}
use Rattle.queue.specs.change.ReopenAs.{ids_at}
use Rattle.queue.proofs.change.reopen.plan_listed.Given as goal

abbrev pub invariant-loop-left : goal.invariant-loop-left
invariant-loop-left l = ListPlan l.s l.initial.i l.initial._left l.h.counter.0 (ids_at l.ids l.k) l.rows l.i l._left l.c
