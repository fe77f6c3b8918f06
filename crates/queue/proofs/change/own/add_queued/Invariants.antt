use Rattle.std.specs.Prelude.{◌≡◌, ◌≤◌, false, length, take}
use Rattle.queue.proofs.change.OwnLaws.{Queuing}
use Rattle.queue.specs.change.OwnAs.{bits_in, wanted_of}
use Rattle.queue.specs.layout.FormsCodec.{form_c}
use Rattle.queue.specs.layout.FrameCodec.{rec_c}
use Rattle.queue.specs.layout.RecordsAs.{recs_at}
use Rattle.queue.proofs.change.own.add_queued.Given as goal

abbrev pub invariant-loop-left : goal.invariant-loop-left
invariant-loop-left l = Queuing l.s (wanted_of (recs_at (form_c false rec_c) l.s l.recs)) l.t l.initial._left l.initial.i (bits_in l.initial.flags) (bits_in l.flags) (take l.k l.v) l.i l._left × (l.k ≤ length l.v) × (length l.v ≡ length l.initial.v) × (length l.flags ≡ length l.initial.flags)
