use Rattle.queue.proofs.change.ReconcileLaws.{whole_for, whole_put}
use Rattle.std.proofs.Common.{sym, arith, length-take-le}
use Rattle.std.specs.Prelude.{refl}
use Rattle.queue.proofs.change.reconcile.put_whole.Goals as goal

pub plan_whole-p-requires : goal.plan_whole-p-requires
plan_whole-p-requires c = (c.requires.0, c.requires.1, c.requires.2, c.requires.3, c.requires.4, refl)

pub overflow_add-marks : goal.overflow_add-marks
overflow_add-marks c = omega (arith, c.requires.4, c.requires.7)

pub slice_bounds-put_planned-end : goal.slice_bounds-put_planned-end
slice_bounds-put_planned-end c = sym (length-take-le c.plan_whole-p.result.rows _ (omega (arith, c.plan_whole-p.ensures.1)))

pub put_planned-requires : goal.put_planned-requires
put_planned-requires c = (rw (c.wrapping_add_u64.ensures.value, c.requires.7) (whole_for c.requires.0 c.requires.1 c.requires.2 c.requires.3 c.requires.4 (sym (c.requires.5 c.requires.0.q c.requires.0.is)) c.plan_whole-p.ensures.0), c.requires.6)

pub returns : goal.returns
returns c = λ q e. whole_put c.requires.0 c.requires.1 c.requires.2 c.requires.3 c.requires.4 (sym (c.requires.5 c.requires.0.q c.requires.0.is)) c.plan_whole-p.ensures.0 c.args.dst.now e (rw (c.wrapping_add_u64.ensures.value, c.requires.7) at c.put_planned.ensures)
