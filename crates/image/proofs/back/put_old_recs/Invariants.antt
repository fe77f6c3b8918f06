use Rattle.image.proofs.BackLaws.{Olding}
use Rattle.image.proofs.back.put_old_recs.Given as goal

abbrev pub invariant-loop-left : goal.invariant-loop-left
invariant-loop-left l = Olding l.s l.initial._left l.initial.i l.initial.dst l.to l.i l._left l.dst l.o
