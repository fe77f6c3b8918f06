use Rattle.image.proofs.ImageLaws.{in_view, line_of, line_size, turn_end, turn_here, turn_on, turn_room, turn_stands, turning}
use Rattle.queue.proofs.bytes.PutLaws.{sized}
use Rattle.queue.specs.layout.FormsCodec.{area_form, rec_in_value, text_form}
use Rattle.queue.specs.paper.Kinds.{newest}
use Rattle.std.proofs.Common.{arith}
use Rattle.image.proofs.frames.put_lines.Goals as goal

pub loop-left-init : goal.loop-left-init
loop-left-init c = turning area_form (rec_in_value (text_form newest)) c.args.s.now c.args.recs.count c.args.recs.start _ c.args.to c.requires.0.0 c.requires.0.1

pub record_at-x-requires : goal.record_at-x-requires
record_at-x-requires c = turn_stands area_form (rec_in_value (text_form newest)) c.args.s.now c.args.recs.count c.args.recs.start _ c.args.to c.loop-left.invariant c.loop-left-test.true

pub put_line-o-requires : goal.put_line-o-requires
put_line-o-requires c = let x = c.loop-left.invariant in let t = turn_here area_form (rec_in_value (text_form newest)) c.args.s.now c.args.recs.count c.args.recs.start _ c.args.to x c.loop-left-test.true c.record_at-x.ensures in let f = in_view t.is.1 in rw c.new.ensures (f.within, omega (arith, turn_room area_form (rec_in_value (text_form newest)) c.args.s.now c.args.recs.count c.args.recs.start _ c.args.to x c.loop-left-test.true c.record_at-x.ensures c.requires.1, line_size f))

pub after_in-i-requires : goal.after_in-i-requires
after_in-i-requires c = (turn_here area_form (rec_in_value (text_form newest)) c.args.s.now c.args.recs.count c.args.recs.start _ c.args.to c.loop-left.invariant c.loop-left-test.true c.record_at-x.ensures).is.1.within

pub loop-left-preserved : goal.loop-left-preserved
loop-left-preserved c = let t = turn_here area_form (rec_in_value (text_form newest)) c.args.s.now c.args.recs.count c.args.recs.start _ c.args.to c.loop-left.invariant c.loop-left-test.true c.record_at-x.ensures in turn_on area_form (rec_in_value (text_form newest)) c.args.s.now c.args.recs.count c.args.recs.start _ c.args.to c.loop-left.invariant c.loop-left-test.true c.record_at-x.ensures (sized (rw c.new.ensures at c.put_line-o.ensures) (line_of (in_view t.is.1))) c.after_in-i.ensures

pub shape_of-dst : goal.shape_of-dst
shape_of-dst c = c.loop-left.invariant.long

pub returns : goal.returns
returns c = turn_end area_form (rec_in_value (text_form newest)) c.args.s.now c.args.recs.count c.args.recs.start _ c.args.to c.loop-left.invariant (omega arith)
