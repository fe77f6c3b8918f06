use Rattle.queue.proofs.check.AreaLaws.{area_bad, area_good, area_short, area_unfilled, four, recs_stand}
use Rattle.std.specs.Prelude.{refl}
use Rattle.queue.proofs.check.area.Area.read.Goals as goal

pub returns-in_default : goal.returns-in_default
returns-in_default c = record { refusal = refl; is = area_short _ (rw c.new.ensures at c.in_default.ensures.read) }

pub store_at-requires : goal.store_at-requires
store_at-requires c = (four (rw c.new.ensures at c.in-Some.ensures.read)).1

pub returns-in_default-store_at : goal.returns-in_default-store_at
returns-in_default-store_at c = record { refusal = refl; is = area_bad (rw c.new.ensures at c.in-Some.ensures.read) c.in_default-store_at.ensures }

pub filled-requires : goal.filled-requires
filled-requires c = let w = c.in-Some-store_at.ensures.fact in (recs_stand w, w.head.fit.long, w.sums, w.ends)

pub returns-in_default-filled : goal.returns-in_default-filled
returns-in_default-filled c = record { refusal = refl; is = area_unfilled (rw c.new.ensures at c.in-Some.ensures.read) c.in-Some-store_at.ensures c.in_default-filled.ensures }

pub returns : goal.returns
returns c = area_good (rw c.new.ensures at c.in-Some.ensures.read) c.in-Some-store_at.ensures c.in-Some-filled.ensures refl refl refl
