use Rattle.queue.proofs.read.PiecesLaws.{Measuring}
use Rattle.queue.proofs.read.pieces.measure.Given as goal

abbrev pub invariant-loop-left : goal.invariant-loop-left
invariant-loop-left l = Measuring l.w l.s l.initial._left l.initial.i l.i l._left l.count l.size
