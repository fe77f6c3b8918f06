use Rattle.queue.proofs.change.ClashLaws.{any_f}
use Rattle.queue.proofs.layout.TurnLaws.{Scan}
use Rattle.queue.specs.change.ReopenAs.{ids_at}
use Rattle.queue.specs.layout.FrameCodec.{id_c}
use Rattle.queue.proofs.change.clash.any_lent.Given as goal

abbrev pub invariant-loop-left : goal.invariant-loop-left
invariant-loop-left l = Scan id_c (any_f (ids_at l.ids l.m)) l.frame l.c l.at tt l.i l._left tt
