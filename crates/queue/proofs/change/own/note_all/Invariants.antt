use Rattle.std.specs.Prelude.{◌≡◌, ◌+◌, false, length}
use Rattle.queue.proofs.change.OwnLaws.{mark_r, miss_r}
use Rattle.queue.proofs.layout.TurnLaws.{Scan}
use Rattle.queue.specs.bytes.ReaderAs.{list_at}
use Rattle.queue.specs.change.OwnAs.{bits_in, wanted_of}
use Rattle.queue.specs.change.ReopenAs.{ids_at}
use Rattle.queue.specs.layout.FormsCodec.{form_c}
use Rattle.queue.specs.layout.FrameCodec.{rec_c}
use Rattle.queue.specs.paper.Sound.{among?}
use Rattle.queue.proofs.change.own.note_all.Given as goal

abbrev pub invariant-loop-left : goal.invariant-loop-left
invariant-loop-left l = Scan (form_c false rec_c) (mark_r (λ z. among? z (ids_at l.ids l.m))) l.s l.initial._left l.initial.i (bits_in l.initial.flags, 0) l.i l._left (bits_in l.flags, l.g) × Scan (form_c false rec_c) (miss_r (λ z. among? z (ids_at l.ids l.m))) l.s l.initial._left l.initial.i l.initial.t l.i l._left l.t × (length l.flags ≡ length l.initial.flags) × (length l.t ≡ length l.initial.t) × (l.g + length (wanted_of (list_at (form_c false rec_c) l._left l.s l.i)) ≡ length (wanted_of (list_at (form_c false rec_c) l.initial._left l.s l.initial.i)))
