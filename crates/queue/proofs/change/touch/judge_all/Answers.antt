use Rattle.std.specs.Prelude.{◌<◌, false, length}
use Rattle.std.proofs.Common.{arith}
use Rattle.queue.proofs.change.OwnLaws.{flags_from, quick_here, quick_next}
use Rattle.queue.proofs.change.TouchLaws.{judge_end, judge_go, judge_seen, judging}
use Rattle.queue.proofs.layout.TurnLaws.{seen, stands}
use Rattle.queue.specs.change.OwnAs.{bits_in}
use Rattle.queue.specs.change.ReopenAs.{ids_at}
use Rattle.queue.specs.change.TouchAs.{own_ids}
use Rattle.queue.specs.layout.FormsCodec.{form_c}
use Rattle.queue.specs.layout.FrameCodec.{rec_c}
use Rattle.queue.specs.layout.RecordsAs.{recs_at}
use Rattle.queue.proofs.change.touch.judge_all.Goals as goal

pub loop-left-init : goal.loop-left-init
loop-left-init c = (judging _ _ _ _ _ _ _ _ c.requires.0.0 c.requires.0.1, omega arith, λ e. flags_from _ _ _ (c.requires.5 e))

pub touched-c-requires : goal.touched-c-requires
touched-c-requires c = (c.requires.0, (_, judge_seen c.args.b.entries (ids_at c.args.ids.now c.args.b.available) c.loop-left.invariant.0 c.loop-left-test.true c.record_at-x.ensures), c.requires.1, c.requires.2, quick_here (own_ids (ids_at c.args.ids.now c.args.b.available) (recs_at (form_c false rec_c) c.args.s.now c.args.recs)) (bits_in c.args.flags.now) c.loop-left.g c.args.quick c.loop-left.invariant.0.scan c.loop-left.invariant.2 c.loop-left-test.true c.record_at-x.ensures (omega (arith, c.loop-left.invariant.1, c.loop-left-test.true, c.requires.4, (seen false c.loop-left.invariant.0.scan c.loop-left-test.true c.record_at-x.ensures).is.0.small.ins, (seen false c.loop-left.invariant.0.scan c.loop-left-test.true c.record_at-x.ensures).is.0.small.reads)))

pub offset_bounds-vs-j : goal.offset_bounds-vs-j
offset_bounds-vs-j c = let h : c.loop-left.j < length c.loop-left.vs = omega (arith, c.loop-left.invariant.0.count, c.loop-left.invariant.0.long, c.requires.3, c.loop-left-test.true) in let g = c.well_formed in record { fits = omega (arith, c.loop-left.invariant.0.long) }

pub bounds-vs-j : goal.bounds-vs-j
bounds-vs-j c = omega (arith, c.loop-left.invariant.0.count, c.loop-left.invariant.0.long, c.requires.3, c.loop-left-test.true)

pub overflow_add-g : goal.overflow_add-g
overflow_add-g c = omega (arith, c.loop-left.invariant.1, c.requires.4, (seen false c.loop-left.invariant.0.scan c.loop-left-test.true c.record_at-x.ensures).is.0.small.ins, (seen false c.loop-left.invariant.0.scan c.loop-left-test.true c.record_at-x.ensures).is.0.small.reads)

pub overflow_add-g-in-loop-left : goal.overflow_add-g-in-loop-left
overflow_add-g-in-loop-left c = omega (arith, c.loop-left.invariant.1, c.requires.4, (seen false c.loop-left.invariant.0.scan c.loop-left-test.true c.record_at-x.ensures).is.0.small.ins, (seen false c.loop-left.invariant.0.scan c.loop-left-test.true c.record_at-x.ensures).is.0.small.reads)

pub after_in-i-requires : goal.after_in-i-requires
after_in-i-requires c = (seen false c.loop-left.invariant.0.scan c.loop-left-test.true c.record_at-x.ensures).is.1.within

pub overflow_add-j : goal.overflow_add-j
overflow_add-j c = omega (arith, c.loop-left.invariant.0.count, c.loop-left-test.true, c.requires.4)

pub loop-left-preserved : goal.loop-left-preserved
loop-left-preserved c = (judge_go c.args.b.entries (ids_at c.args.ids.now c.args.b.available) c.loop-left.invariant.0 c.loop-left-test.true c.record_at-x.ensures c.requires.3 c.touched-c.ensures c.after_in-i.ensures, omega (arith, c.loop-left.invariant.1, c.loop-left-test.true, (seen false c.loop-left.invariant.0.scan c.loop-left-test.true c.record_at-x.ensures).is.0.small.ins, (seen false c.loop-left.invariant.0.scan c.loop-left-test.true c.record_at-x.ensures).is.0.small.reads), quick_next (own_ids (ids_at c.args.ids.now c.args.b.available) (recs_at (form_c false rec_c) c.args.s.now c.args.recs)) (bits_in c.args.flags.now) c.loop-left.g c.args.quick c.loop-left.invariant.0.scan c.loop-left.invariant.2 c.loop-left-test.true c.record_at-x.ensures c.after_in-i.ensures)

pub shape_of-vs : goal.shape_of-vs
shape_of-vs c = c.loop-left.invariant.0.long

pub returns : goal.returns
returns c = judge_end c.args.b.entries (ids_at c.args.ids.now c.args.b.available) c.loop-left.invariant.0 (omega arith)

pub record_at-x-requires : goal.record_at-x-requires
record_at-x-requires c = stands false c.loop-left.invariant.0.scan c.loop-left-test.true
