use Rattle.queue.proofs.check.FilterLaws.{Passing}
use Rattle.queue.specs.bytes.ReaderAs.{list_at}
use Rattle.queue.specs.check.FilterAs.{held_by_value}
use Rattle.queue.specs.layout.FormsCodec.{rec_in_value}
use Rattle.queue.specs.layout.FrameCodec.{id_c}
use Rattle.queue.specs.layout.RecordsAs.{recs_at}
use Rattle.queue.proofs.check.scan.any_shared.Given as goal

abbrev pub invariant-loop-left : goal.invariant-loop-left
invariant-loop-left l = Passing (held_by_value (recs_at (rec_in_value l.form) l.s l.recs)) l.v (list_at id_c l.m l.v l.ids) l.initial.t l.i l._left l.t
