use Rattle.image.proofs.BackLaws.{saying, saying_end, saying_no, saying_on, saying_size, saying_stands}
use Rattle.std.proofs.Common.{arith}
use Rattle.image.proofs.back.sayable_recs.Goals as goal

pub loop-left-init : goal.loop-left-init
loop-left-init c = saying c.args.s.now c.args.recs.count c.args.recs.start c.requires.0 c.requires.1

pub record_in-x-requires : goal.record_in-x-requires
record_in-x-requires c = saying_stands c.args.s.now c.args.recs.count c.args.recs.start c.loop-left.invariant c.loop-left-test.true

pub returns-then-not-sayable : goal.returns-then-not-sayable
returns-then-not-sayable c = saying_no c.args.s.now c.args.recs.count c.args.recs.start c.loop-left.invariant c.loop-left-test.true c.record_in-x.ensures c.sayable.ensures c.if-not-sayable.true

pub after_in-i-requires : goal.after_in-i-requires
after_in-i-requires c = saying_size c.args.s.now c.args.recs.count c.args.recs.start c.loop-left.invariant c.loop-left-test.true c.record_in-x.ensures

pub loop-left-preserved : goal.loop-left-preserved
loop-left-preserved c = saying_on c.args.s.now c.args.recs.count c.args.recs.start c.loop-left.invariant c.loop-left-test.true c.record_in-x.ensures c.sayable.ensures c.if-not-sayable.false c.after_in-i.ensures

pub returns : goal.returns
returns c = saying_end c.args.s.now c.args.recs.count c.args.recs.start c.loop-left.invariant (omega arith)
