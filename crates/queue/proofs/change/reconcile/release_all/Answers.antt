use Rattle.queue.proofs.change.AdmitLaws.{tally_asks}
use Rattle.queue.proofs.change.ReconcileLaws.{decided_are, few_mined, gone_are, mined_few, mined_long, mined_stands, verdicts_fit}
use Rattle.std.proofs.Common.{sym, ◌∙◌, arith}
use Rattle.queue.proofs.change.reconcile.release_all.Goals as goal

pub gather_mined-c-requires : goal.gather_mined-c-requires
gather_mined-c-requires c = ((tally_asks c.requires.0).0, verdicts_fit c.requires.0 c.requires.2, few_mined c.requires.0 c.requires.1 c.requires.2)

pub slice_bounds-rows-end : goal.slice_bounds-rows-end
slice_bounds-rows-end c = omega (arith, mined_few c.requires.0 c.requires.1 c.requires.2 c.gather_mined-c.ensures, c.gather_mined-c.ensures.size)

pub slice_bounds-release_rows-end : goal.slice_bounds-release_rows-end
slice_bounds-release_rows-end c = sym (mined_long c.requires.0 c.requires.1 c.requires.2 c.gather_mined-c.ensures)

pub release_rows-requires : goal.release_rows-requires
release_rows-requires c = (c.gather_mined-c.ensures.stand, omega (arith, mined_long c.requires.0 c.requires.1 c.requires.2 c.gather_mined-c.ensures, mined_few c.requires.0 c.requires.1 c.requires.2 c.gather_mined-c.ensures), c.requires.3, mined_stands c.requires.0 c.requires.1 c.requires.2 c.gather_mined-c.ensures)

pub returns : goal.returns
returns c = let e = gone_are c.requires.0 c.requires.1 c.requires.2 c.gather_mined-c.ensures _ _ c.release_rows.ensures.0 c.release_rows.ensures.1 in (e.0, e.1, c.release_rows.ensures.2 ∙ c.requires.3, decided_are c.requires.0 c.requires.1 c.requires.2 c.gather_mined-c.ensures c.release_rows.ensures.3)
