use Rattle.queue.proofs.change.CallsExpireLaws.{Listing}
use Rattle.queue.proofs.change.calls.put_picked.Given as goal

abbrev pub invariant-loop-left : goal.invariant-loop-left
invariant-loop-left l = Listing l.s l.initial.i l.initial._left l.c l.id l.to l.initial.dst l.dst l.i l._left l.o
