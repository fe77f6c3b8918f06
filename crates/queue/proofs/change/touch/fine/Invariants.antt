use Rattle.queue.proofs.change.TouchLaws.{fine_f}
use Rattle.queue.proofs.layout.TurnLaws.{Scan}
use Rattle.queue.specs.change.ReopenAs.{ids_at}
use Rattle.queue.specs.change.TouchAs.{own_ids}
use Rattle.queue.specs.layout.FormsCodec.{form_c}
use Rattle.queue.specs.layout.FrameCodec.{id_c, rec_c}
use Rattle.queue.specs.layout.RecordsAs.{recs_at}
use Rattle.std.specs.Prelude.{false}
use Rattle.queue.proofs.change.touch.fine.Given as goal

abbrev pub invariant-loop-left : goal.invariant-loop-left
invariant-loop-left l = Scan id_c (fine_f (own_ids (ids_at l.ids l.m) (recs_at (form_c false rec_c) l.s l.recs))) l.frame l.initial._left l.initial.i tt l.i l._left tt
