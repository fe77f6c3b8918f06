use Rattle.queue.proofs.check.FilterLaws.{Passing}
use Rattle.queue.specs.bytes.ReaderAs.{list_at}
use Rattle.queue.specs.layout.FrameCodec.{id_c}
use Rattle.queue.proofs.check.scan.new_ids.Given as goal

abbrev pub invariant-loop-left : goal.invariant-loop-left
invariant-loop-left l = Passing (λ _. 2) l.v (list_at id_c l.c l.v l.ids) l.initial.t l.i l._left l.t
