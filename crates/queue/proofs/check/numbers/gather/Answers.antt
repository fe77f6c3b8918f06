use Rattle.std.specs.Prelude.{refl}
use Rattle.std.proofs.Common.{arith}
use Rattle.queue.proofs.check.NumbersLaws.{filled_long, gather_end, gather_go, gather_room}
use Rattle.queue.proofs.layout.TurnLaws.{seen_in, stands_here, start}
use Rattle.queue.specs.layout.FormsCodec.{rec_in_value}
use Rattle.queue.proofs.check.numbers.gather.Goals as goal

pub loop-left-init : goal.loop-left-init
loop-left-init c = (start (rec_in_value c.args.form) _ _ _ _ _ c.requires.0.0 c.requires.0.1, omega arith, refl)

pub add_number-k-requires : goal.add_number-k-requires
add_number-k-requires c = (c.loop-left.invariant.1, λ e. filled_long c.loop-left.v c.loop-left.invariant.1 (gather_room c.args.form c.loop-left.invariant.0 c.loop-left-test.true c.record_in-x.ensures (omega (arith, c.requires.1, c.loop-left.invariant.2)) e))

pub after_in-i-requires : goal.after_in-i-requires
after_in-i-requires c = (seen_in c.args.form c.loop-left.invariant.0 c.loop-left-test.true c.record_in-x.ensures).is.1.within

pub loop-left-preserved : goal.loop-left-preserved
loop-left-preserved c = (gather_go c.args.form c.loop-left.invariant.0 c.loop-left-test.true c.record_in-x.ensures c.after_in-i.ensures c.add_number-k.ensures.0, omega (arith, c.add_number-k.ensures.1), omega (arith, c.loop-left.invariant.2))

pub returns : goal.returns
returns c = (gather_end c.args.form c.loop-left.invariant.0 (omega arith), omega (arith, c.loop-left.invariant.1, c.loop-left.invariant.2), c.loop-left.invariant.2)

pub record_in-x-requires : goal.record_in-x-requires
record_in-x-requires c = stands_here c.args.form c.loop-left.invariant.0 c.loop-left-test.true
