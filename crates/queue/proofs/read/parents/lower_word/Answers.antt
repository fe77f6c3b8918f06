use Rattle.std.specs.Prelude.{refl}
use Rattle.std.proofs.Common.{arith}
use Rattle.queue.proofs.read.ParentsLaws.{down, lower_cons, lower_nil, sweep_end, sweep_go, sweep_room, sweep_skip, sweep_start}
use Rattle.queue.specs.read.parents.Counters.{lower}
use Rattle.queue.proofs.read.parents.lower_word.Goals as goal

pub loop-y-init : goal.loop-y-init
loop-y-init c = (sweep_start lower down lower_nil lower_cons c.args.x c.args.base _ (omega (arith, c.well_formed)), λ q. q, refl)

pub overflow_add-j : goal.overflow_add-j
overflow_add-j c = let w = sweep_skip lower down lower_nil lower_cons 8 c.loop-y.invariant.0 c.loop-y-test.true c.if-y-eq0.true in omega (arith, w.high, c.requires)

pub loop-y-smaller-then-y-eq0 : goal.loop-y-smaller-then-y-eq0
loop-y-smaller-then-y-eq0 c = let w = sweep_skip lower down lower_nil lower_cons 8 c.loop-y.invariant.0 c.loop-y-test.true c.if-y-eq0.true in omega (arith, w.high)

pub loop-y-preserved-then-y-eq0 : goal.loop-y-preserved-then-y-eq0
loop-y-preserved-then-y-eq0 c = (let w = sweep_skip lower down lower_nil lower_cons 8 c.loop-y.invariant.0 c.loop-y-test.true c.if-y-eq0.true in w, c.loop-y.invariant.1, c.loop-y.invariant.2)

pub overflow_add-j-else-y-eq0 : goal.overflow_add-j-else-y-eq0
overflow_add-j-else-y-eq0 c = let r = sweep_room lower down lower_nil lower_cons c.loop-y.invariant.0 c.loop-y-test.true in omega (arith, r, c.requires)

pub loop-y-smaller : goal.loop-y-smaller
loop-y-smaller c = let r = sweep_room lower down lower_nil lower_cons c.loop-y.invariant.0 c.loop-y-test.true in omega (arith, r)

pub loop-y-preserved : goal.loop-y-preserved
loop-y-preserved c = (sweep_go lower down lower_nil lower_cons c.loop-y.invariant.0 c.loop-y-test.true c.lower_if-f.ensures.is, λ q. c.lower_if-f.ensures.clear (c.loop-y.invariant.1 q), omega (arith, c.loop-y.invariant.2))

pub shape_of-cs : goal.shape_of-cs
shape_of-cs c = c.loop-y.invariant.2

pub returns : goal.returns
returns c = record { is = sweep_end lower down lower_nil lower_cons c.loop-y.invariant.0 (omega (arith, c.loop-y-test.false)); clear = c.loop-y.invariant.1 }
