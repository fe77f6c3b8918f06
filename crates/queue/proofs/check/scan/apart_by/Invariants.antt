use Rattle.queue.proofs.check.FilterLaws.{Walk}
use Rattle.queue.proofs.check.ScanLaws.{nothing_f}
use Rattle.queue.proofs.layout.TurnLaws.{Scan}
use Rattle.queue.specs.bytes.ReaderAs.{list_at}
use Rattle.queue.specs.check.FilterAs.{has_in, hash_l}
use Rattle.queue.specs.layout.FormsCodec.{rec_in_value}
use Rattle.queue.specs.layout.RecordsAs.{recs_at}
use Rattle.std.specs.Prelude.{◌≡◌, length}
use Rattle.queue.proofs.check.scan.apart_by.Given as goal

abbrev pub invariant-loop-left : goal.invariant-loop-left
invariant-loop-left l = Scan (rec_in_value l.form) nothing_f l.s l.initial._left l.initial.i tt l.i l._left tt × Walk has_in hash_l (recs_at (rec_in_value l.form) l.s l.recs) (list_at (rec_in_value l.form) l._left l.s l.i) l.t × (length l.t ≡ length l.initial.t)
