use Rattle.queue.proofs.change.AdmitLaws.{tally_asks}
use Rattle.queue.proofs.change.PlanLaws.{few_records}
use Rattle.std.proofs.Common.{sym, arith, length-take-le, rules}
use Rattle.queue.proofs.change.reconcile.reconcile_lent.Goals as goal

pub judge-requires : goal.judge-requires
judge-requires c = ((tally_asks c.requires.0).0, c.requires.1.entries, c.requires.1.rise, few_records c.requires.0, c.requires.0.read.store.head.count_small)

pub slice_bounds-vs-end : goal.slice_bounds-vs-end
slice_bounds-vs-end c = omega (arith, few_records c.requires.0)

pub slice_bounds-release_all-end : goal.slice_bounds-release_all-end
slice_bounds-release_all-end c = sym (length-take-le c.args.a.open.head.count _ (omega (arith, few_records c.requires.0)))

pub release_all-w-requires : goal.release_all-w-requires
release_all-w-requires c = (c.requires.0, c.requires.1, record { all = c.judge.ensures }, search rules)

pub slice_bounds-vs-end-2 : goal.slice_bounds-vs-end-2
slice_bounds-vs-end-2 c = omega (arith, few_records c.requires.0)

pub slice_bounds-reconcile_gone-end : goal.slice_bounds-reconcile_gone-end
slice_bounds-reconcile_gone-end c = sym (length-take-le c.args.a.open.head.count _ (omega (arith, few_records c.requires.0)))

pub slice_bounds-reconcile_gone-end-2 : goal.slice_bounds-reconcile_gone-end-2
slice_bounds-reconcile_gone-end-2 c = sym (length-take-le c.release_all-w.result.gone _ (omega (arith, c.release_all-w.ensures.0, c.release_all-w.ensures.2)))

pub slice_bounds-ranks-end : goal.slice_bounds-ranks-end
slice_bounds-ranks-end c = omega (arith, c.release_all-w.ensures.0)

pub slice_bounds-reconcile_gone-end-3 : goal.slice_bounds-reconcile_gone-end-3
slice_bounds-reconcile_gone-end-3 c = sym (length-take-le c.release_all-w.result.gone _ (omega (arith, c.release_all-w.ensures.0)))

pub reconcile_gone-requires : goal.reconcile_gone-requires
reconcile_gone-requires c = (c.requires.0, c.requires.1, record { all = c.judge.ensures }, c.release_all-w.ensures.1, c.requires.2)

pub returns : goal.returns
returns c = c.reconcile_gone.ensures
