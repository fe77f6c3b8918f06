use Rattle.queue.proofs.layout.TurnLaws.{Scan}
use Rattle.queue.proofs.read.ReadingLaws.{find_f}
use Rattle.queue.specs.layout.FormsCodec.{form_c}
use Rattle.queue.specs.layout.FrameCodec.{rec_c}
use Rattle.std.specs.Prelude.{false}
use Rattle.queue.proofs.read.find.find_id.Given as goal

abbrev pub invariant-loop-left : goal.invariant-loop-left
invariant-loop-left l = Scan (form_c false rec_c) (find_f l.id) l.s l.initial._left l.initial.i l.initial.i l.i l._left l.i
