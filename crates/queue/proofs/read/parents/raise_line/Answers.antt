use Rattle.std.specs.Prelude.{refl}
use Rattle.std.proofs.Common.{arith}
use Rattle.queue.proofs.read.ParentsLaws.{few_to, raise_cons, raise_nil, up, words_end, words_go, words_start}
use Rattle.queue.specs.read.parents.Counters.{raise}
use Rattle.queue.proofs.read.parents.raise_line.Goals as goal

pub loop-a-init : goal.loop-a-init
loop-a-init c = (words_start raise up raise_nil raise_cons c.args.bits.now c.args.start c.args.w _, c.requires.2, omega arith, refl)

pub overflow_add-start : goal.overflow_add-start
overflow_add-start c = omega (arith, c.requires.0, c.loop-a-test.true)

pub offset_bounds-bits-start : goal.offset_bounds-bits-start
offset_bounds-bits-start c = omega (arith, c.requires.0, c.loop-a-test.true)

pub bounds-bits-start : goal.bounds-bits-start
bounds-bits-start c = omega (arith, c.requires.0, c.loop-a-test.true)

pub raise_word-requires : goal.raise_word-requires
raise_word-requires c = (c.loop-a.invariant.1, omega (arith, c.requires.3, c.loop-a.invariant.0.at, c.loop-a.invariant.2, c.loop-a-test.true), omega (arith, c.requires.1, c.loop-a.invariant.0.at, c.loop-a-test.true))

pub overflow_add-j : goal.overflow_add-j
overflow_add-j c = omega (arith, c.requires.1, c.loop-a.invariant.0.at, c.loop-a-test.true)

pub overflow_add-top : goal.overflow_add-top
overflow_add-top c = omega (arith, c.requires.3, c.loop-a.invariant.0.at, c.loop-a.invariant.2, c.loop-a-test.true)

pub loop-a-preserved : goal.loop-a-preserved
loop-a-preserved c = (words_go raise up raise_nil raise_cons c.loop-a.invariant.0 c.loop-a-test.true c.raise_word.ensures.0, c.raise_word.ensures.1, omega (arith, c.loop-a.invariant.2), omega (arith, c.loop-a.invariant.3))

pub shape_of-cs : goal.shape_of-cs
shape_of-cs c = c.loop-a.invariant.3

pub returns : goal.returns
returns c = (words_end raise up raise_nil raise_cons c.loop-a.invariant.0 c.loop-a-test.false, few_to c.loop-a.top _ (omega (arith, c.loop-a.invariant.0.upto, c.loop-a.invariant.0.at, c.loop-a.invariant.2)) c.loop-a.invariant.1)
