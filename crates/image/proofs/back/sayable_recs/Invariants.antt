use Rattle.image.proofs.BackLaws.{Saying}
use Rattle.image.proofs.back.sayable_recs.Given as goal

abbrev pub invariant-loop-left : goal.invariant-loop-left
invariant-loop-left l = Saying l.s l.initial._left l.initial.i l.i l._left
