use Rattle.queue.proofs.change.CallsExpireLaws.{list_end, list_go, list_next, list_room, listing, list_stands}
use Rattle.std.proofs.Common.{arith}
use Rattle.queue.proofs.change.calls.put_picked.Goals as goal

pub loop-left-init : goal.loop-left-init
loop-left-init c = listing c.args.s.now c.args.recs.start c.args.recs.count c.args.c c.args.id c.args.to c.args.dst.now c.requires.0.0 c.requires.0.1

pub put_id_if-o-requires : goal.put_id_if-o-requires
put_id_if-o-requires c = list_room c.args.s.now c.args.recs.start c.args.recs.count c.args.c c.args.id c.args.to c.args.dst.now c.loop-left.invariant c.loop-left-test.true c.record_at-x.ensures c.picks.ensures c.requires.1

pub overflow_add-i : goal.overflow_add-i
overflow_add-i c = omega (arith, list_next c.args.s.now c.args.recs.start c.args.recs.count c.args.c c.args.id c.args.to c.args.dst.now c.loop-left.invariant c.loop-left-test.true c.record_at-x.ensures, c.well_formed.0)

pub loop-left-preserved : goal.loop-left-preserved
loop-left-preserved c = list_go c.args.s.now c.args.recs.start c.args.recs.count c.args.c c.args.id c.args.to c.args.dst.now c.loop-left.invariant c.loop-left-test.true c.record_at-x.ensures c.picks.ensures c.put_id_if-o.ensures

pub shape_of-dst : goal.shape_of-dst
shape_of-dst c = c.loop-left.invariant.long

pub returns : goal.returns
returns c = list_end c.args.s.now c.args.recs.start c.args.recs.count c.args.c c.args.id c.args.to c.args.dst.now c.loop-left.invariant (omega arith)

pub record_at-x-requires : goal.record_at-x-requires
record_at-x-requires c = list_stands c.args.s.now c.args.recs.start c.args.recs.count c.args.c c.args.id c.args.to c.args.dst.now c.loop-left.invariant c.loop-left-test.true
