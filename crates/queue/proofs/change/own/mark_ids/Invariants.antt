use Rattle.std.specs.Prelude.{◌≡◌, ◌+◌, false, length}
use Rattle.queue.proofs.change.OwnLaws.{mark_f}
use Rattle.queue.proofs.layout.TurnLaws.{Scan}
use Rattle.queue.specs.bytes.ViewAs.{view}
use Rattle.queue.specs.change.OwnAs.{bits_in}
use Rattle.queue.specs.check.SuspectsAs.{later}
use Rattle.queue.specs.layout.FrameCodec.{id_c}
use Rattle.queue.specs.paper.Lists.{any?}
use Rattle.queue.proofs.change.own.mark_ids.Given as goal

abbrev pub invariant-loop-left : goal.invariant-loop-left
invariant-loop-left l = Scan id_c (mark_f (λ z. any? (later false l.s z 0) l.v)) (view false l.s l.base) l.c l.at (bits_in l.initial.flags, l.from) l.i l._left (bits_in l.flags, l.g) × (length l.flags ≡ length l.initial.flags) × (l.g + l._left ≡ l.from + l.c)
