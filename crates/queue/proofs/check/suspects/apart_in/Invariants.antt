use Rattle.std.specs.Prelude.{◌≡◌, ◌+◌, ◌≤◌, length, take, drop}
use Rattle.queue.proofs.check.ScanLaws.{nothing_f}
use Rattle.queue.proofs.check.SuspectsLaws.{Gone}
use Rattle.queue.proofs.layout.TurnLaws.{Scan}
use Rattle.queue.specs.bytes.ReaderAs.{list_at}
use Rattle.queue.specs.layout.FormsCodec.{rec_in_value}
use Rattle.queue.specs.layout.RecordsAs.{recs_at}
use Rattle.queue.proofs.check.suspects.apart_in.Given as goal

abbrev pub invariant-loop-left : goal.invariant-loop-left
invariant-loop-left l = Scan (rec_in_value l.form) nothing_f l.s l.initial._left l.initial.i tt l.i l._left tt × (drop l.k (recs_at (rec_in_value l.form) l.s l.recs) ≡ list_at (rec_in_value l.form) l._left l.s l.i) × Gone l.form.hex l.s (recs_at (rec_in_value l.form) l.s l.recs) (list_at (rec_in_value l.form) l._left l.s l.i) l.t (take l.m l.v) × (l.k + l._left ≡ l.initial._left) × (l.m ≤ length l.initial.v) × (length l.v ≡ length l.initial.v) × (length l.t ≡ length l.initial.t)
