use Rattle.queue.proofs.change.ReopenLaws.{area_again, opened_done, opened_plan}
use Rattle.queue.proofs.change.WriteLaws.{head_in_law}
use Rattle.std.proofs.Common.{sym, arith, length-take-le}
use Rattle.std.specs.Prelude.{refl}
use Rattle.queue.proofs.change.reopen.put_opened.Goals as goal

pub tip_at-tip-requires : goal.tip_at-tip-requires
tip_at-tip-requires c = head_in_law c.requires.0.read

pub plan_listed-p-requires : goal.plan_listed-p-requires
plan_listed-p-requires c = (area_again c.requires.0, c.requires.1, refl)

pub marks_next-marks-requires : goal.marks_next-marks-requires
marks_next-marks-requires c = omega (arith, c.requires.0.read.store.head.counter_small)

pub slice_bounds-put_plain-end : goal.slice_bounds-put_plain-end
slice_bounds-put_plain-end c = sym (length-take-le c.plan_listed-p.result.rows _ (omega (arith, c.plan_listed-p.ensures.1)))

pub put_plain-requires : goal.put_plain-requires
put_plain-requires c = (rw c.marks_next-marks.ensures (opened_plan c.requires.0 c.tip_at-tip.result c.tip_at-tip.ensures c.plan_listed-p.ensures.0), c.requires.2)

pub returns : goal.returns
returns c = λ q e. opened_done c.requires.0 c.tip_at-tip.result c.tip_at-tip.ensures c.plan_listed-p.ensures.0 c.args.dst.now e (rw c.marks_next-marks.ensures at c.put_plain.ensures)
