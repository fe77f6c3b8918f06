use Rattle.std.proofs.Common.{arith}
use Rattle.queue.proofs.check.FilterLaws.{held_end, held_go}
use Rattle.queue.proofs.layout.TurnLaws.{seen_in, stands_here, start}
use Rattle.queue.specs.layout.FormsCodec.{rec_in_value}
use Rattle.queue.specs.Basics.{one_most}
use Rattle.queue.proofs.check.scan.held_by.Goals as goal

pub loop-left-init : goal.loop-left-init
loop-left-init c = (start (rec_in_value c.args.form) _ _ _ _ _ c.requires.0 c.requires.1, omega arith)

pub has_id-requires : goal.has_id-requires
has_id-requires c = let t = seen_in c.args.form c.loop-left.invariant.0 c.loop-left-test.true c.record_in-x.ensures in rw c.new-v.ensures (t.is.0.ins_in, t.is.0.ins_all)

pub overflow_add-total : goal.overflow_add-total
overflow_add-total c = omega (arith, c.loop-left.invariant.1, c.from-total.ensures, one_most c.has_id.result, c.loop-left-test.true)

pub after_in-i-requires : goal.after_in-i-requires
after_in-i-requires c = (seen_in c.args.form c.loop-left.invariant.0 c.loop-left-test.true c.record_in-x.ensures).is.1.within

pub loop-left-preserved : goal.loop-left-preserved
loop-left-preserved c = (held_go c.args.form _ c.loop-left.invariant.0 c.loop-left-test.true c.record_in-x.ensures c.after_in-i.ensures (rw c.new-v.ensures at c.has_id.ensures) c.from-total.ensures, omega (arith, c.loop-left.invariant.1, c.from-total.ensures, one_most c.has_id.result, c.loop-left-test.true))

pub returns : goal.returns
returns c = held_end c.args.form _ c.loop-left.invariant.0 (omega arith)

pub record_in-x-requires : goal.record_in-x-requires
record_in-x-requires c = stands_here c.args.form c.loop-left.invariant.0 c.loop-left-test.true
