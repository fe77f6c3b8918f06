use Rattle.std.specs.Prelude.{◌≡◌, ◌≤◌, false, length, take}
use Rattle.queue.proofs.change.OwnLaws.{Adding}
use Rattle.queue.specs.bytes.ViewAs.{view}
use Rattle.queue.specs.change.OwnAs.{bits_in, wanted_of}
use Rattle.queue.specs.layout.FormsCodec.{form_c}
use Rattle.queue.specs.layout.FrameCodec.{rec_c}
use Rattle.queue.specs.layout.RecordsAs.{recs_at}
use Rattle.queue.proofs.change.own.add_rows.Given as goal

abbrev pub invariant-loop-left : goal.invariant-loop-left
invariant-loop-left l = Adding l.s (wanted_of (recs_at (form_c false rec_c) l.s l.recs)) l.t (view false l.s l.base) l.c l.outs (bits_in l.initial.flags) (take l.k l.initial.v) (bits_in l.flags) (take l.h l.v) l.i l._left × (l.h ≤ length l.v) × (length l.v ≡ length l.initial.v) × (length l.flags ≡ length l.initial.flags)
