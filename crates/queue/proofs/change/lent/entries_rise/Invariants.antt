use Rattle.queue.proofs.change.LentLaws.{Rising}
use Rattle.queue.proofs.change.lent.entries_rise.Given as goal

abbrev pub invariant-loop-left : goal.invariant-loop-left
invariant-loop-left l = Rising l.t l.k l.i l._left
