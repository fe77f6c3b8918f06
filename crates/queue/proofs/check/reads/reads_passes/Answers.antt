use Rattle.queue.proofs.check.ReadsLaws.{asked_passed, over_all, over_odd, over_on, over_start}
use Rattle.queue.proofs.layout.TurnLaws.{seen_in, stands_here, start}
use Rattle.queue.specs.layout.FormsCodec.{rec_in_value}
use Rattle.std.specs.Prelude.{refl}
use Rattle.std.proofs.Common.{sym, arith}
use Rattle.queue.proofs.check.reads.reads_passes.Goals as goal

pub loop-left-init : goal.loop-left-init
loop-left-init c = (start (rec_in_value c.args.form) _ _ _ _ _ c.requires.0.0 c.requires.0.1, over_start _ _ _)

pub pass_reads-requires : goal.pass_reads-requires
pass_reads-requires c = let u = seen_in c.args.form c.loop-left.invariant.0 c.loop-left-test.true c.record_in-x.ensures in (c.requires.0, rw c.new-v.ensures u.is.0.ins_in, rw c.new-v.ensures u.is.0.ins_all, rw c.new-v.ensures u.is.0.reads_in, rw c.new-v.ensures u.is.0.reads_all, rw c.new-v.ensures (over_odd c.args.form c.loop-left.invariant.0 c.loop-left.invariant.1 c.loop-left-test.true c.record_in-x.ensures))

pub returns-then-not-pass_reads : goal.returns-then-not-pass_reads
returns-then-not-pass_reads c = sym (c.pass_reads.ensures.no c.if-not-pass_reads.true)

pub after_in-i-requires : goal.after_in-i-requires
after_in-i-requires c = (seen_in c.args.form c.loop-left.invariant.0 c.loop-left-test.true c.record_in-x.ensures).is.1.within

pub loop-left-preserved : goal.loop-left-preserved
loop-left-preserved c = over_on c.args.form c.loop-left.invariant.0 c.loop-left.invariant.1 c.loop-left-test.true c.record_in-x.ensures (asked_passed (rw c.new-v.ensures at c.pass_reads.ensures) c.if-not-pass_reads.false) c.after_in-i.ensures

pub returns : goal.returns
returns c = over_all c.args.form c.loop-left.invariant.0 c.loop-left.invariant.1 c.requires.1 (omega arith) refl

pub record_in-x-requires : goal.record_in-x-requires
record_in-x-requires c = stands_here c.args.form c.loop-left.invariant.0 c.loop-left-test.true
