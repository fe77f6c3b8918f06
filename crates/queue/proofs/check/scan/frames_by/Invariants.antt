use Rattle.queue.proofs.check.ScanCheckLaws.{Checking}
use Rattle.std.specs.Prelude.{◌≡◌, length}
use Rattle.queue.proofs.check.scan.frames_by.Given as goal

abbrev pub invariant-loop-left : goal.invariant-loop-left
invariant-loop-left l = Checking l.form l.s l.initial._left l.initial.i l.k l.c l.i l._left l.a l.last l.t × (length l.t ≡ length l.initial.t)
