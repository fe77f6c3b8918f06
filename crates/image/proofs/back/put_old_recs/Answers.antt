use Rattle.image.proofs.BackLaws.{olding_on, olding_room}
use Rattle.image.proofs.ImageLaws.{turn_end, turn_here, turn_stands, turning}
use Rattle.queue.specs.layout.FormsCodec.{rec_in_value, text_form}
use Rattle.queue.specs.paper.Kinds.{newest, oldest}
use Rattle.std.proofs.Common.{arith}
use Rattle.image.proofs.back.put_old_recs.Goals as goal

pub loop-left-init : goal.loop-left-init
loop-left-init c = (turning (text_form newest) (rec_in_value (text_form oldest)) c.args.s.now c.args.recs.count c.args.recs.start _ c.args.to c.requires.0.0 c.requires.0.1, c.requires.1)

pub record_in-x-requires : goal.record_in-x-requires
record_in-x-requires c = turn_stands (text_form newest) (rec_in_value (text_form oldest)) c.args.s.now c.args.recs.count c.args.recs.start _ c.args.to c.loop-left.invariant.0 c.loop-left-test.true

pub put_old_rec-o-requires : goal.put_old_rec-o-requires
put_old_rec-o-requires c = rw c.new.ensures (olding_room c.args.s.now c.args.recs.count c.args.recs.start _ c.args.to c.loop-left.invariant c.loop-left-test.true c.record_in-x.ensures c.requires.2)

pub after_in-i-requires : goal.after_in-i-requires
after_in-i-requires c = (turn_here (text_form newest) (rec_in_value (text_form oldest)) c.args.s.now c.args.recs.count c.args.recs.start _ c.args.to c.loop-left.invariant.0 c.loop-left-test.true c.record_in-x.ensures).is.1.within

pub loop-left-preserved : goal.loop-left-preserved
loop-left-preserved c = olding_on c.args.s.now c.args.recs.count c.args.recs.start _ c.args.to c.loop-left.invariant c.loop-left-test.true c.record_in-x.ensures (rw c.new.ensures at c.put_old_rec-o.ensures) c.after_in-i.ensures

pub shape_of-dst : goal.shape_of-dst
shape_of-dst c = c.loop-left.invariant.0.long

pub returns : goal.returns
returns c = turn_end (text_form newest) (rec_in_value (text_form oldest)) c.args.s.now c.args.recs.count c.args.recs.start _ c.args.to c.loop-left.invariant.0 (omega arith)
