use Rattle.queue.proofs.check.ReadsLaws.{Over}
use Rattle.queue.proofs.check.ScanLaws.{nothing_f}
use Rattle.queue.proofs.layout.TurnLaws.{Scan}
use Rattle.queue.specs.bytes.ReaderAs.{list_at}
use Rattle.queue.specs.layout.FormsCodec.{rec_in_value}
use Rattle.queue.specs.layout.RecordsAs.{recs_at}
use Rattle.std.specs.Prelude.{[]}
use Rattle.queue.proofs.check.reads.reads_passes.Given as goal

abbrev pub invariant-loop-left : goal.invariant-loop-left
invariant-loop-left l = Scan (rec_in_value l.form) nothing_f l.s l.initial._left l.initial.i tt l.i l._left tt × Over l.form.hex l.s (recs_at (rec_in_value l.form) l.s l.recs) (list_at (rec_in_value l.form) l._left l.s l.i) []
