use Rattle.queue.proofs.change.WriteLaws.{head_in_law}
use Rattle.queue.proofs.change.WritePlanLaws.{area_ended, ended_asks, ended_done, ended_plan}
use Rattle.std.proofs.Common.{sym, arith, length-take-le}
use Rattle.std.specs.Prelude.{refl}
use Rattle.queue.proofs.change.write.put_ended.Goals as goal

pub tip_at-tip-requires : goal.tip_at-tip-requires
tip_at-tip-requires c = head_in_law c.requires.0.read

pub floor_of-f-requires : goal.floor_of-f-requires
floor_of-f-requires c = (area_ended c.requires.0, c.requires.0.few, c.requires.0.room)

pub plan_ended-p-requires : goal.plan_ended-p-requires
plan_ended-p-requires c = (area_ended c.requires.0, refl, (ended_asks c.requires.0).0, (ended_asks c.requires.0).1)

pub marks_next-marks-requires : goal.marks_next-marks-requires
marks_next-marks-requires c = c.requires.0.room

pub slice_bounds-put_plain-end : goal.slice_bounds-put_plain-end
slice_bounds-put_plain-end c = sym (length-take-le c.plan_ended-p.result.rows _ (omega (arith, c.plan_ended-p.ensures.1)))

pub put_plain-requires : goal.put_plain-requires
put_plain-requires c = (rw c.marks_next-marks.ensures (ended_plan c.requires.0 c.tip_at-tip.result c.floor_of-f.ensures c.tip_at-tip.ensures c.plan_ended-p.ensures.0), c.requires.1)

pub returns : goal.returns
returns c = λ q e. ended_done c.requires.0 c.tip_at-tip.result c.floor_of-f.ensures c.tip_at-tip.ensures c.plan_ended-p.ensures.0 c.args.dst.now e (rw c.marks_next-marks.ensures at c.put_plain.ensures)
