use Rattle.queue.proofs.check.ReadsLaws.{Asking}
use Rattle.queue.specs.bytes.ReaderAs.{list_at}
use Rattle.queue.specs.layout.FormsCodec.{rec_in_value}
use Rattle.queue.specs.layout.FrameCodec.{id_c}
use Rattle.queue.specs.layout.RecordsAs.{recs_at}
use Rattle.std.specs.Prelude.{[]}
use Rattle.queue.proofs.check.reads.pass_reads.Given as goal

abbrev pub invariant-loop-left : goal.invariant-loop-left
invariant-loop-left l = Asking l.form.hex l.s (recs_at (rec_in_value l.form) l.s l.recs) l.v (list_at id_c l.x.facts.reads l.v l.x.reads) (list_at id_c l.x.facts.ins l.v l.x.at) [] l.i l._left []
