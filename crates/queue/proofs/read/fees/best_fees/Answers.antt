use Rattle.queue.proofs.RefusalLaws.{unsound}
use Rattle.queue.proofs.check.AreaLaws.{recs_stand}
use Rattle.queue.proofs.read.FeesLaws.{fees_100, fees_3, fees_high, fees_low, first_few, first_known, first_told}
use Rattle.queue.proofs.read.SelectLaws.{chosen_few, chosen_rising}
use Rattle.std.specs.Prelude.{refl}
use Rattle.queue.proofs.read.fees.best_fees.Goals as goal

pub returns-in_err-a : goal.returns-in_err-a
returns-in_err-a c = rw (unsound _ c.from_residual.ensures.1 c.in_err-a.ensures) (fees_3 c.args.area.now c.args.limit c.args.budget c.args.time.0 c.args.height.0 c.args.out.now c.in_err-a.ensures.is)

pub returns-then-budget-lt1 : goal.returns-then-budget-lt1
returns-then-budget-lt1 c = let u = c.in_ok-a.ensures in fees_low c.args.limit c.args.budget c.args.time.0 c.args.height.0 u.read u.is c.args.out.now c.if-budget-lt1.true

pub returns-then-budget-gt2097151 : goal.returns-then-budget-gt2097151
returns-then-budget-gt2097151 c = let u = c.in_ok-a.ensures in fees_high c.args.limit c.args.budget c.args.time.0 c.args.height.0 u.read u.is c.args.out.now c.if-budget-gt2097151.true

pub select_places-n-requires : goal.select_places-n-requires
select_places-n-requires c = let u = c.in_ok-a.ensures in (recs_stand u.read.store, refl, chosen_few c.args.time.0 c.args.height.0 u.read)

pub best_at-requires : goal.best_at-requires
best_at-requires c = (first_few _ c.first_20.result c.first_20.ensures.0, first_known c.select_places-n.ensures c.first_20.result c.first_20.ensures.1, c.if-budget-lt1.false, c.if-budget-gt2097151.false)

pub returns : goal.returns
returns c = let u = c.in_ok-a.ensures in fees_100 c.args.limit c.args.budget c.args.time.0 c.args.height.0 u.read u.is c.args.out.now c.if-budget-lt1.false c.if-budget-gt2097151.false (first_told c.select_places-n.ensures (chosen_rising c.args.time.0 c.args.height.0 u.read) c.args.limit c.args.budget c.args.out.now c.first_20.ensures.1 c.first_20.ensures.2 c.first_20.ensures.3 c.best_at.ensures)
