use Rattle.std.specs.Prelude.{◌≡◌, ◌≤◌, length, take}
use Rattle.queue.proofs.check.ReadsLaws.{Asking}
use Rattle.queue.specs.bytes.ReaderAs.{list_at}
use Rattle.queue.specs.bytes.ViewAs.{view}
use Rattle.queue.specs.layout.FormsCodec.{rec_in_value}
use Rattle.queue.specs.layout.FrameCodec.{id_c}
use Rattle.queue.specs.layout.RecordsAs.{recs_at}
use Rattle.queue.proofs.check.reads.note_reads.Given as goal

abbrev pub invariant-loop-left : goal.invariant-loop-left
invariant-loop-left l = Asking l.form.hex l.s (recs_at (rec_in_value l.form) l.s l.recs) (view l.form.hex l.s l.base) (list_at id_c l.x.facts.reads (view l.form.hex l.s l.base) l.x.reads) (list_at id_c l.x.facts.ins (view l.form.hex l.s l.base) l.x.at) (take l.m l.initial.v) l.i l._left (take l.len l.v) × (l.len ≤ length l.initial.v) × (length l.v ≡ length l.initial.v)
