use Rattle.std.proofs.Common.{ap, sym, arith, length-take-le}
use Rattle.std.specs.Prelude.{refl, not}
use Rattle.queue.proofs.read.FeesLaws.{best_21, best_told, few_picked, few_sizes, nodes_small, picked_within, sum_known}
use Rattle.queue.proofs.read.FeesWalkLaws.{many_sizes}
use Rattle.queue.proofs.read.fees.best_known.Goals as goal

pub returns-then-not-fees_fit : goal.returns-then-not-fees_fit
returns-then-not-fees_fit c = best_21 c.args.s.now c.args.at.now c.requires.0 c.requires.1 c.requires.2.sizes c.requires.2.fees c.args.limit c.args.budget c.args.out.now c.fees_fit.ensures (ap not c.if-not-fees_fit.true)

pub search-b-requires : goal.search-b-requires
search-b-requires c = (omega (arith, many_sizes c.args.candidates.now, few_sizes c.args.s.now c.args.at.now c.requires.0 c.requires.1 c.requires.2.sizes c.requires.2.fees), sum_known c.args.s.now c.args.at.now c.requires.0 c.requires.1 c.requires.2.sizes c.requires.2.fees c.fees_fit.ensures (ap not c.if-not-fees_fit.false), c.requires.3)

pub pick-n-requires : goal.pick-n-requires
pick-n-requires c = (c.requires.0, refl)

pub slice_bounds-put_best-end : goal.slice_bounds-put_best-end
slice_bounds-put_best-end c = sym (length-take-le c.pick-n.result _ (omega (arith, c.pick-n.ensures.0, c.pick-n.ensures.1)))

pub put_best-requires : goal.put_best-requires
put_best-requires c = (picked_within c.args.s.now c.args.at.now c.requires.0 c.requires.1 c.requires.2.sizes c.requires.2.fees c.args.limit c.args.budget c.requires.3 c.search-b.ensures c.pick-n.ensures.2, few_picked _ c.pick-n.result c.pick-n.ensures.0, nodes_small c.args.s.now c.args.at.now c.requires.0 c.requires.1 c.requires.2.sizes c.requires.2.fees c.args.limit c.args.budget c.requires.3 c.search-b.ensures c.requires.4)

pub returns : goal.returns
returns c = best_told c.args.s.now c.args.at.now c.requires.0 c.requires.1 c.requires.2.sizes c.requires.2.fees c.args.limit c.args.budget c.requires.3 c.search-b.ensures c.args.out.now c.fees_fit.ensures (ap not c.if-not-fees_fit.false) c.pick-n.ensures.2 c.put_best.ensures
