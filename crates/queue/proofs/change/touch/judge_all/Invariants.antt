use Rattle.std.specs.Prelude.{◌≡◌, ◌+◌, ◌*◌, ◌≤◌, true, false, length}
use Rattle.queue.proofs.change.TouchLaws.{Judging}
use Rattle.queue.specs.bytes.ReaderAs.{list_at}
use Rattle.queue.specs.change.OwnAs.{FlagsFrom, bits_in, wanted_of}
use Rattle.queue.specs.change.ReopenAs.{ids_at}
use Rattle.queue.specs.change.TouchAs.{applied_in, own_ids}
use Rattle.queue.specs.layout.FormsCodec.{form_c}
use Rattle.queue.specs.layout.FrameCodec.{rec_c}
use Rattle.queue.specs.layout.RecordsAs.{recs_at}
use Rattle.queue.proofs.change.touch.judge_all.Given as goal

abbrev pub invariant-loop-left : goal.invariant-loop-left
invariant-loop-left l = Judging l.t l.b.caught (own_ids (ids_at l.ids l.b.available) (recs_at (form_c false rec_c) l.s l.recs)) (applied_in l.t l.b.entries) l.s l.initial._left l.initial.i (length l.initial.vs) l.i l._left l.j l.vs × (l.g + l._left * 131070 ≤ l.initial._left * 131070) × (l.quick ≡ true → FlagsFrom (own_ids (ids_at l.ids l.b.available) (recs_at (form_c false rec_c) l.s l.recs)) (wanted_of (list_at (form_c false rec_c) l._left l.s l.i)) (bits_in l.flags) l.g)
