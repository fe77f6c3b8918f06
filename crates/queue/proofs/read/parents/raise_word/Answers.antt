use Rattle.std.specs.Prelude.{◌+◌, ◌-◌, ◌%◌, eqb, refl}
use Rattle.std.proofs.Common.{arith}
use Rattle.queue.proofs.read.ParentsLaws.{few_more, few_to, raise_cons, raise_nil, sweep_end, sweep_go, sweep_room, sweep_skip, sweep_start, up}
use Rattle.queue.specs.read.parents.Counters.{raise}
use Rattle.queue.proofs.read.parents.raise_word.Goals as goal

pub loop-y-init : goal.loop-y-init
loop-y-init c = (sweep_start raise up raise_nil raise_cons c.args.x c.args.base _ (omega (arith, c.well_formed)), few_to c.args.most _ (omega arith) c.requires.0, refl)

pub overflow_add-j : goal.overflow_add-j
overflow_add-j c = let w = sweep_skip raise up raise_nil raise_cons 8 c.loop-y.invariant.0 c.loop-y-test.true c.if-y-eq0.true in omega (arith, w.high, c.requires.2)

pub loop-y-smaller-then-y-eq0 : goal.loop-y-smaller-then-y-eq0
loop-y-smaller-then-y-eq0 c = let w = sweep_skip raise up raise_nil raise_cons 8 c.loop-y.invariant.0 c.loop-y-test.true c.if-y-eq0.true in omega (arith, w.high)

pub loop-y-preserved-then-y-eq0 : goal.loop-y-preserved-then-y-eq0
loop-y-preserved-then-y-eq0 c = (let w = sweep_skip raise up raise_nil raise_cons 8 c.loop-y.invariant.0 c.loop-y-test.true c.if-y-eq0.true in w, few_to (c.args.most + (c.loop-y.j - c.args.base)) _ (omega arith) c.loop-y.invariant.1, c.loop-y.invariant.2)

pub raise_if-requires : goal.raise_if-requires
raise_if-requires c = let z = c.loop-y.invariant.1.all c.loop-y.j in let r = sweep_room raise up raise_nil raise_cons c.loop-y.invariant.0 c.loop-y-test.true in omega (arith, z, r, c.requires.1)

pub overflow_add-j-else-y-eq0 : goal.overflow_add-j-else-y-eq0
overflow_add-j-else-y-eq0 c = let r = sweep_room raise up raise_nil raise_cons c.loop-y.invariant.0 c.loop-y-test.true in omega (arith, r, c.requires.2)

pub loop-y-smaller : goal.loop-y-smaller
loop-y-smaller c = let r = sweep_room raise up raise_nil raise_cons c.loop-y.invariant.0 c.loop-y-test.true in omega (arith, r)

pub loop-y-preserved : goal.loop-y-preserved
loop-y-preserved c = (sweep_go raise up raise_nil raise_cons c.loop-y.invariant.0 c.loop-y-test.true c.raise_if.ensures, few_to _ _ (omega (arith, c.loop-y.invariant.0.low)) (few_more (eqb (c.loop-y.y % 2) 1) (c.args.most + (c.loop-y.j - c.args.base)) c.loop-y.j c.loop-y.invariant.1 c.raise_if.ensures), omega (arith, c.loop-y.invariant.2))

pub shape_of-cs : goal.shape_of-cs
shape_of-cs c = c.loop-y.invariant.2

pub returns : goal.returns
returns c = (sweep_end raise up raise_nil raise_cons c.loop-y.invariant.0 (omega (arith, c.loop-y-test.false)), few_to (c.args.most + (c.loop-y.j - c.args.base)) _ (omega (arith, c.loop-y.invariant.0.high)) c.loop-y.invariant.1)
