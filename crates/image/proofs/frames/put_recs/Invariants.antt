use Rattle.image.proofs.ImageLaws.{Turning}
use Rattle.queue.specs.layout.FormsCodec.{area_form, rec_in_value}
use Rattle.image.proofs.frames.put_recs.Given as goal

abbrev pub invariant-loop-left : goal.invariant-loop-left
invariant-loop-left l = Turning l.form (rec_in_value area_form) l.s l.initial._left l.initial.i l.initial.dst l.to l.i l._left l.dst l.o
