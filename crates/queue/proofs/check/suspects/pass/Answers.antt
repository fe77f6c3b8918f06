use Rattle.std.proofs.Common.{arith}
use Rattle.queue.proofs.check.SuspectsLaws.{crosses_end, crosses_go, crosses_stop}
use Rattle.queue.proofs.layout.TurnLaws.{seen_in, stands_here, start}
use Rattle.queue.specs.layout.FormsCodec.{rec_in_value}
use Rattle.queue.proofs.check.suspects.pass.Goals as goal

pub loop-left-init : goal.loop-left-init
loop-left-init c = (start (rec_in_value c.args.form) _ _ _ _ _ c.requires.0.0 c.requires.0.1, omega arith)

pub pass_ids-requires : goal.pass_ids-requires
pass_ids-requires c = let t = seen_in c.args.form c.loop-left.invariant.0 c.loop-left-test.true c.record_in-x.ensures in (t.is.0.ins_in, t.is.0.ins_all, c.requires.1, omega (arith, c.requires.2, c.loop-left.invariant.1, c.loop-left-test.true), c.requires.3)

pub returns-then-pass_ids : goal.returns-then-pass_ids
returns-then-pass_ids c = crosses_stop c.args.form c.args.v.now c.loop-left.invariant.0 c.loop-left-test.true c.record_in-x.ensures c.pass_ids.ensures c.if-pass_ids.true

pub after_in-i-requires : goal.after_in-i-requires
after_in-i-requires c = (seen_in c.args.form c.loop-left.invariant.0 c.loop-left-test.true c.record_in-x.ensures).is.1.within

pub overflow_add-k : goal.overflow_add-k
overflow_add-k c = omega (arith, c.requires.2, c.loop-left.invariant.1, c.loop-left-test.true)

pub loop-left-preserved : goal.loop-left-preserved
loop-left-preserved c = (crosses_go c.args.form c.args.v.now c.loop-left.invariant.0 c.loop-left-test.true c.record_in-x.ensures c.pass_ids.ensures c.after_in-i.ensures c.if-pass_ids.false, omega (arith, c.loop-left.invariant.1, c.loop-left-test.true))

pub returns : goal.returns
returns c = crosses_end c.args.form c.args.v.now c.loop-left.invariant.0 (omega arith)

pub record_in-x-requires : goal.record_in-x-requires
record_in-x-requires c = stands_here c.args.form c.loop-left.invariant.0 c.loop-left-test.true
