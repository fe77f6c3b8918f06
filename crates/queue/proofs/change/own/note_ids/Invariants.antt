use Rattle.std.specs.Prelude.{◌≡◌, ◌+◌, length}
use Rattle.queue.proofs.change.OwnLaws.{mark_f, miss_f}
use Rattle.queue.proofs.layout.TurnLaws.{Scan}
use Rattle.queue.specs.change.OwnAs.{bits_in}
use Rattle.queue.specs.change.ReopenAs.{ids_at}
use Rattle.queue.specs.layout.FrameCodec.{id_c}
use Rattle.queue.specs.paper.Sound.{among?}
use Rattle.queue.proofs.change.own.note_ids.Given as goal

abbrev pub invariant-loop-left : goal.invariant-loop-left
invariant-loop-left l = Scan id_c (mark_f (λ z. among? z (ids_at l.ids l.m))) l.frame l.c l.at (bits_in l.initial.flags, l.from) l.i l._left (bits_in l.flags, l.g) × Scan id_c (miss_f (λ z. among? z (ids_at l.ids l.m))) l.frame l.c l.at l.initial.t l.i l._left l.t × (length l.flags ≡ length l.initial.flags) × (length l.t ≡ length l.initial.t) × (l.g + l._left ≡ l.from + l.c)
