use Rattle.std.specs.Prelude.{refl}
use Rattle.std.proofs.Common.{arith}
use Rattle.queue.proofs.read.ParentsLaws.{down, lower_cons, lower_nil, words_end, words_go, words_start}
use Rattle.queue.specs.read.parents.Counters.{lower}
use Rattle.queue.proofs.read.parents.lower_line.Goals as goal

pub loop-a-init : goal.loop-a-init
loop-a-init c = (words_start lower down lower_nil lower_cons c.args.bits.now c.args.start c.args.w _, λ q. q, refl)

pub overflow_add-start : goal.overflow_add-start
overflow_add-start c = omega (arith, c.requires.0, c.loop-a-test.true)

pub offset_bounds-bits-start : goal.offset_bounds-bits-start
offset_bounds-bits-start c = omega (arith, c.requires.0, c.loop-a-test.true)

pub bounds-bits-start : goal.bounds-bits-start
bounds-bits-start c = omega (arith, c.requires.0, c.loop-a-test.true)

pub lower_word-f-requires : goal.lower_word-f-requires
lower_word-f-requires c = omega (arith, c.requires.1, c.loop-a.invariant.0.at, c.loop-a-test.true)

pub overflow_add-j : goal.overflow_add-j
overflow_add-j c = omega (arith, c.requires.1, c.loop-a.invariant.0.at, c.loop-a-test.true)

pub loop-a-preserved : goal.loop-a-preserved
loop-a-preserved c = (words_go lower down lower_nil lower_cons c.loop-a.invariant.0 c.loop-a-test.true c.lower_word-f.ensures.is, λ q. c.lower_word-f.ensures.clear (c.loop-a.invariant.1 q), omega (arith, c.loop-a.invariant.2))

pub shape_of-cs : goal.shape_of-cs
shape_of-cs c = c.loop-a.invariant.2

pub returns : goal.returns
returns c = record { is = words_end lower down lower_nil lower_cons c.loop-a.invariant.0 c.loop-a-test.false; clear = c.loop-a.invariant.1 }
