-- The steps of the walk, by the laws of FeesWalkLaws.
use Rattle.std.proofs.Common.{arith, pos_of_ne-zero}
use Rattle.queue.proofs.read.FeesWalkLaws.{end, fee_fits, fee_last, leave, many_sizes, over, shape_leave, shape_take, size_last, take_it}
use Rattle.queue.proofs.read.fees.+walk.Goals as goal

pub overflow_add-fee : goal.overflow_add-fee
overflow_add-fee t c = omega (arith, c.fit-more.ensures, fee_fits _ _ _ _ _ _ c.requires c.args.left)

pub returns-then-budget-nodes : goal.returns-then-budget-nodes
returns-then-budget-nodes t c = over _ _ _ _ _ _ c.requires _ _ _ c.if-budget-nodes.true c.fit-more.ensures c.pass_by.ensures

pub returns-then-k-eq0 : goal.returns-then-k-eq0
returns-then-k-eq0 t c = end _ _ _ _ _ _ c.requires _ _ _ c.if-budget-nodes.false c.if-k-eq0.true c.visit-v.ensures

pub walk-requires : goal.walk-requires
walk-requires t c = (omega (arith, c.decreases, pos_of_ne-zero c.if-k-eq0.false), shape_leave _ _ _ _ _ _ c.requires (pos_of_ne-zero c.if-k-eq0.false))

pub returns-then-left-c : goal.returns-then-left-c
returns-then-left-c t c = leave _ _ _ _ _ _ c.requires _ _ _ c.if-budget-nodes.false (pos_of_ne-zero c.if-k-eq0.false) (omega (arith, size_last c.args.candidates.now c.args.k (pos_of_ne-zero c.if-k-eq0.false) (omega (arith, c.requires.has, many_sizes c.args.candidates.now)), c.if-left-c.true)) c.visit-v.ensures c.walk.ensures

pub walk-y-requires : goal.walk-y-requires
walk-y-requires t c = (omega (arith, c.decreases, pos_of_ne-zero c.if-k-eq0.false), rw (fee_last c.args.candidates.now c.args.k (pos_of_ne-zero c.if-k-eq0.false) (omega (arith, c.requires.has, many_sizes c.args.candidates.now))) (shape_take _ _ _ _ _ _ c.requires (pos_of_ne-zero c.if-k-eq0.false)))

pub walk-requires-2 : goal.walk-requires-2
walk-requires-2 t c = (omega (arith, c.decreases, pos_of_ne-zero c.if-k-eq0.false), shape_leave _ _ _ _ _ _ c.requires (pos_of_ne-zero c.if-k-eq0.false))

pub returns : goal.returns
returns t c = take_it _ _ _ _ _ _ c.requires _ _ _ c.if-budget-nodes.false (pos_of_ne-zero c.if-k-eq0.false) (omega (arith, size_last c.args.candidates.now c.args.k (pos_of_ne-zero c.if-k-eq0.false) (omega (arith, c.requires.has, many_sizes c.args.candidates.now)), c.if-left-c.false)) c.visit-v.ensures (rw (fee_last c.args.candidates.now c.args.k (pos_of_ne-zero c.if-k-eq0.false) (omega (arith, c.requires.has, many_sizes c.args.candidates.now)), size_last c.args.candidates.now c.args.k (pos_of_ne-zero c.if-k-eq0.false) (omega (arith, c.requires.has, many_sizes c.args.candidates.now))) at c.walk-y.ensures) c.walk-2.ensures
