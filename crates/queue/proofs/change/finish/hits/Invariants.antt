use Rattle.std.specs.Prelude.{◌+◌, ◌≤◌, false}
use Rattle.queue.proofs.change.FinishLaws.{hits_from}
use Rattle.queue.proofs.layout.TurnLaws.{Scan}
use Rattle.queue.specs.layout.FormsCodec.{form_c}
use Rattle.queue.specs.layout.FrameCodec.{rec_c}
use Rattle.queue.proofs.change.finish.hits.Given as goal

abbrev pub invariant-loop-left : goal.invariant-loop-left
invariant-loop-left l = Scan (form_c false rec_c) (hits_from l.c l.id) l.s l.initial._left l.initial.i 0 l.i l._left l.total × (l.total + l._left ≤ l.initial._left)
