use Rattle.queue.proofs.change.ReleaseLaws.{Mining}
use Rattle.std.specs.Prelude.{length}
use Rattle.queue.proofs.change.release.gather_mined.Given as goal

abbrev pub invariant-loop-left : goal.invariant-loop-left
invariant-loop-left l = Mining l.s l.initial.i l.initial.left l.t l.vs (length l.initial.rows) l.i l.left l.j l.c l.rows
