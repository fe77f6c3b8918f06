use Rattle.std.specs.Prelude.{refl}
use Rattle.std.proofs.Common.{sym, ◌∙◌, arith, length-take-le}
use Rattle.queue.proofs.check.SuspectsLaws.{gone_last, gone_marks, gone_on, gone_own, gone_start, said, said_out}
use Rattle.queue.proofs.layout.TurnLaws.{seen_in, stands_here, start}
use Rattle.queue.specs.bytes.ReaderLaws.{false_true}
use Rattle.queue.specs.layout.FormsCodec.{rec_in_value}
use Rattle.queue.proofs.check.suspects.apart_in.Goals as goal

pub loop-left-init : goal.loop-left-init
loop-left-init c = (start (rec_in_value c.args.form) _ _ _ _ _ c.requires.0.0 c.requires.0.1, refl, gone_start _ _ _ _, omega arith, omega arith, refl, refl)

pub note_all-requires : goal.note_all-requires
note_all-requires c = let u = seen_in c.args.form c.loop-left.invariant.0 c.loop-left-test.true c.record_in-x.ensures in (c.requires.0, c.requires.1, c.requires.2, omega (arith, c.loop-left.invariant.4, c.loop-left.invariant.5), omega (arith, c.loop-left.invariant.5, c.requires.3), omega (arith, c.loop-left.invariant.3, c.requires.2, c.loop-left-test.true), u.is.0.ins_in, u.is.0.ins_all, c.loop-left.invariant.2.held, gone_own c.args.form c.loop-left.k c.loop-left.invariant.0 c.loop-left.invariant.1 c.loop-left-test.true c.record_in-x.ensures)

pub returns-then-last : goal.returns-then-last
returns-then-last c = (said (sym (c.in_default.ensures.bad c.if-last.true)), λ e. false_true e)

pub returns-else-last : goal.returns-else-last
returns-else-last c = (said_out c.if-last.false, tt)

pub after_in-i-requires : goal.after_in-i-requires
after_in-i-requires c = (seen_in c.args.form c.loop-left.invariant.0 c.loop-left-test.true c.record_in-x.ensures).is.1.within

pub overflow_add-k : goal.overflow_add-k
overflow_add-k c = omega (arith, c.requires.2, c.loop-left.invariant.3, c.loop-left-test.true)

pub loop-left-preserved : goal.loop-left-preserved
loop-left-preserved c = let g = gone_on c.args.form c.loop-left.k c.loop-left.invariant.0 c.loop-left.invariant.1 c.loop-left-test.true c.record_in-x.ensures c.loop-left.invariant.2 c.in-Some.ensures.0 c.after_in-i.ensures in (g.0, g.1, g.2, omega (arith, c.loop-left.invariant.3, c.loop-left-test.true), omega (arith, c.in-Some.ensures.1, c.loop-left.invariant.5), omega (arith, c.loop-left.invariant.5), c.in-Some.ensures.0.size ∙ c.loop-left.invariant.6)

pub slice_bounds-crossed-end : goal.slice_bounds-crossed-end
slice_bounds-crossed-end c = omega (arith, c.loop-left.invariant.4, c.loop-left.invariant.5)

pub slice_bounds-crossed-end-2 : goal.slice_bounds-crossed-end-2
slice_bounds-crossed-end-2 c = sym (length-take-le _ _ (omega (arith, c.loop-left.invariant.4, c.loop-left.invariant.5)))

pub crossed-requires : goal.crossed-requires
crossed-requires c = (c.requires.0, c.requires.1, c.requires.2)

pub returns : goal.returns
returns c = (said (gone_last c.args.form c.loop-left.k c.loop-left.invariant.0 c.loop-left.invariant.1 (omega arith) c.loop-left.invariant.2 c.crossed.ensures.1), λ _. gone_marks c.args.form c.loop-left.k c.loop-left.invariant.0 c.loop-left.invariant.1 (omega arith) c.loop-left.invariant.2)

pub record_in-x-requires : goal.record_in-x-requires
record_in-x-requires c = stands_here c.args.form c.loop-left.invariant.0 c.loop-left-test.true
