use Rattle.queue.proofs.change.RanksPlanLaws.{JudgePlan}
use Rattle.queue.proofs.change.ranks.plan_judged.Given as goal

abbrev pub invariant-loop-left : goal.invariant-loop-left
invariant-loop-left l = JudgePlan l.s l.initial.i l.initial._left l.h.counter.0 l.t l.vs l.gone l.floor.0 l.rows l.i l._left l.j l.k l.kept
