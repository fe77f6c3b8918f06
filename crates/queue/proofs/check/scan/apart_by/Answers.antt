use Rattle.queue.proofs.check.FilterLaws.{apart_end, apart_go, apart_stop, walk_start}
use Rattle.queue.proofs.layout.TurnLaws.{seen_in, stands_here, start}
use Rattle.queue.specs.layout.FormsCodec.{rec_in_value}
use Rattle.std.specs.Prelude.{refl}
use Rattle.std.proofs.Common.{◌∙◌, arith}
use Rattle.queue.proofs.check.scan.apart_by.Goals as goal

pub loop-left-init : goal.loop-left-init
loop-left-init c = (start (rec_in_value c.args.form) _ _ _ _ _ c.requires.0 c.requires.1, walk_start _ _ _ _, refl)

pub any_shared-requires : goal.any_shared-requires
any_shared-requires c = let t = seen_in c.args.form c.loop-left.invariant.0 c.loop-left-test.true c.record_in-x.ensures in (c.requires, rw c.new-v.ensures t.is.0.ins_in, rw c.new-v.ensures t.is.0.ins_all)

pub returns-then-any_shared : goal.returns-then-any_shared
returns-then-any_shared c = apart_stop c.args.form c.loop-left.invariant.0 c.loop-left.invariant.1 c.loop-left-test.true c.record_in-x.ensures (rw c.new-v.ensures at c.any_shared.ensures) c.if-any_shared.true

pub after_in-i-requires : goal.after_in-i-requires
after_in-i-requires c = (seen_in c.args.form c.loop-left.invariant.0 c.loop-left-test.true c.record_in-x.ensures).is.1.within

pub loop-left-preserved : goal.loop-left-preserved
loop-left-preserved c = let g = apart_go c.args.form c.loop-left.invariant.0 c.loop-left.invariant.1 c.loop-left-test.true c.record_in-x.ensures (rw c.new-v.ensures at c.any_shared.ensures) c.after_in-i.ensures c.if-any_shared.false in (g.0, g.1, c.any_shared.ensures.size ∙ c.loop-left.invariant.2)

pub returns : goal.returns
returns c = apart_end c.args.form c.loop-left.invariant.0 c.loop-left.invariant.1 (omega arith)

pub record_in-x-requires : goal.record_in-x-requires
record_in-x-requires c = stands_here c.args.form c.loop-left.invariant.0 c.loop-left-test.true
