use Rattle.queue.proofs.change.ReopenLaws.{any_f}
use Rattle.queue.proofs.layout.TurnLaws.{Scan}
use Rattle.queue.specs.change.ReopenAs.{ids_at}
use Rattle.queue.specs.layout.FormsCodec.{form_c}
use Rattle.queue.specs.layout.FrameCodec.{rec_c}
use Rattle.std.specs.Prelude.{false}
use Rattle.queue.proofs.change.reopen.any_listed.Given as goal

abbrev pub invariant-loop-left : goal.invariant-loop-left
invariant-loop-left l = Scan (form_c false rec_c) (any_f (ids_at l.ids l.k)) l.s l.initial._left l.initial.i tt l.i l._left tt
