use Rattle.queue.proofs.check.NumbersLaws.{add_more, add_new}
use Rattle.std.proofs.Common.{arith}
use Rattle.queue.proofs.check.numbers.add_number.Goals as goal

pub returns-then-f : goal.returns-then-f
returns-then-f c = (add_more c.args.f c.args.v.now c.args.k c.if-f.true, c.requires.0)

pub bounds-v-k : goal.bounds-v-k
bounds-v-k c = omega (arith, c.requires.1 c.if-f.false)

pub returns : goal.returns
returns c = (add_new c.args.f c.args.v.now c.args.k c.if-f.false (c.requires.1 c.if-f.false), omega (arith, c.requires.1 c.if-f.false))
