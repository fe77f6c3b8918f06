use Rattle.queue.proofs.change.WritePlanLaws.{EndPlan}
use Rattle.queue.proofs.change.finish.plan_ended.Given as goal

abbrev pub invariant-loop-left : goal.invariant-loop-left
invariant-loop-left l = EndPlan l.s l.initial.i l.initial._left l.h.counter.0 l.c l.id l.floor.0 l.rows l.i l._left l.k l.kept l.given
