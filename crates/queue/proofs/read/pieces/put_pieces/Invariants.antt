use Rattle.queue.proofs.read.PiecesLaws.{Writing}
use Rattle.queue.proofs.read.pieces.put_pieces.Given as goal

abbrev pub invariant-loop-left : goal.invariant-loop-left
invariant-loop-left l = Writing l.w l.s l.initial._left l.initial.i l.initial.dst l.at l.i l._left l.dst l.o
