use Rattle.std.specs.Prelude.{refl}
use Rattle.std.proofs.Common.{sym, arith, length-take-le}
use Rattle.queue.proofs.check.AreaLaws.{list_length}
use Rattle.queue.proofs.check.ReadsLaws.{over_last, over_odd, over_on, over_start}
use Rattle.queue.proofs.check.SuspectsLaws.{said, said_out}
use Rattle.queue.proofs.layout.TurnLaws.{seen_in, stands_here, start}
use Rattle.queue.specs.layout.FormsCodec.{rec_in_value}
use Rattle.queue.proofs.check.reads.reads_by.Goals as goal

pub loop-left-init : goal.loop-left-init
loop-left-init c = (start (rec_in_value c.args.form) _ _ _ _ _ c.requires.0.0 c.requires.0.1, over_start _ _ _, omega arith, refl)

pub note_reads-requires : goal.note_reads-requires
note_reads-requires c = let u = seen_in c.args.form c.loop-left.invariant.0 c.loop-left-test.true c.record_in-x.ensures in (c.requires.0, c.requires.1, c.requires.2, omega (arith, c.loop-left.invariant.2, c.loop-left.invariant.3), omega (arith, c.loop-left.invariant.3, c.requires.3), c.requires.4, u.is.0.ins_in, u.is.0.ins_all, u.is.0.reads_in, u.is.0.reads_all, c.loop-left.invariant.1.odd, c.requires.6, over_odd c.args.form c.loop-left.invariant.0 c.loop-left.invariant.1 c.loop-left-test.true c.record_in-x.ensures)

pub returns-then-last : goal.returns-then-last
returns-then-last c = said (sym (c.in_default.ensures.bad c.if-last.true))

pub returns-else-last : goal.returns-else-last
returns-else-last c = said_out c.if-last.false

pub after_in-i-requires : goal.after_in-i-requires
after_in-i-requires c = (seen_in c.args.form c.loop-left.invariant.0 c.loop-left-test.true c.record_in-x.ensures).is.1.within

pub loop-left-preserved : goal.loop-left-preserved
loop-left-preserved c = let g = over_on c.args.form c.loop-left.invariant.0 c.loop-left.invariant.1 c.loop-left-test.true c.record_in-x.ensures c.in-Some.ensures.0 c.after_in-i.ensures in (g.0, g.1, omega (arith, c.in-Some.ensures.1, c.loop-left.invariant.3), omega (arith, c.loop-left.invariant.3))

pub slice_bounds-crossed-end : goal.slice_bounds-crossed-end
slice_bounds-crossed-end c = omega (arith, c.loop-left.invariant.2, c.loop-left.invariant.3)

pub slice_bounds-crossed-end-2 : goal.slice_bounds-crossed-end-2
slice_bounds-crossed-end-2 c = sym (length-take-le _ _ (omega (arith, c.loop-left.invariant.2, c.loop-left.invariant.3)))

pub crossed-requires : goal.crossed-requires
crossed-requires c = (c.requires.0, c.requires.1, c.requires.2)

pub returns : goal.returns
returns c = said (over_last c.args.form c.loop-left.invariant.0 c.loop-left.invariant.1 c.requires.5 (omega arith) (let l = list_length (rec_in_value c.args.form) _ _ _ c.requires.0.1 in omega (arith, l, c.requires.2)) c.crossed.ensures.1)

pub record_in-x-requires : goal.record_in-x-requires
record_in-x-requires c = stands_here c.args.form c.loop-left.invariant.0 c.loop-left-test.true
