use Rattle.image.proofs.ImageLaws.{in_view, turn_end, turn_here, turn_on, turn_room, turn_stands, turning}
use Rattle.queue.specs.layout.FormsCodec.{area_form, rec_in_value}
use Rattle.std.proofs.Common.{arith}
use Rattle.image.proofs.frames.put_recs.Goals as goal

pub loop-left-init : goal.loop-left-init
loop-left-init c = turning c.args.form (rec_in_value area_form) c.args.s.now c.args.recs.count c.args.recs.start _ c.args.to c.requires.0.0 c.requires.0.1

pub record_in-x-requires : goal.record_in-x-requires
record_in-x-requires c = turn_stands c.args.form (rec_in_value area_form) c.args.s.now c.args.recs.count c.args.recs.start _ c.args.to c.loop-left.invariant c.loop-left-test.true

pub put_rec-o-requires : goal.put_rec-o-requires
put_rec-o-requires c = let x = c.loop-left.invariant in let t = turn_here c.args.form (rec_in_value area_form) c.args.s.now c.args.recs.count c.args.recs.start _ c.args.to x c.loop-left-test.true c.record_in-x.ensures in rw c.new.ensures (record { rec = t.item; is = t.is.0; frame = in_view t.is.1; room = turn_room c.args.form (rec_in_value area_form) c.args.s.now c.args.recs.count c.args.recs.start _ c.args.to x c.loop-left-test.true c.record_in-x.ensures c.requires.1 })

pub after_in-i-requires : goal.after_in-i-requires
after_in-i-requires c = (turn_here c.args.form (rec_in_value area_form) c.args.s.now c.args.recs.count c.args.recs.start _ c.args.to c.loop-left.invariant c.loop-left-test.true c.record_in-x.ensures).is.1.within

pub loop-left-preserved : goal.loop-left-preserved
loop-left-preserved c = let t = turn_here c.args.form (rec_in_value area_form) c.args.s.now c.args.recs.count c.args.recs.start _ c.args.to c.loop-left.invariant c.loop-left-test.true c.record_in-x.ensures in turn_on c.args.form (rec_in_value area_form) c.args.s.now c.args.recs.count c.args.recs.start _ c.args.to c.loop-left.invariant c.loop-left-test.true c.record_in-x.ensures ((rw c.new.ensures at c.put_rec-o.ensures) t.item t.is.0 (in_view t.is.1)) c.after_in-i.ensures

pub shape_of-dst : goal.shape_of-dst
shape_of-dst c = c.loop-left.invariant.long

pub returns : goal.returns
returns c = turn_end c.args.form (rec_in_value area_form) c.args.s.now c.args.recs.count c.args.recs.start _ c.args.to c.loop-left.invariant (omega arith)
