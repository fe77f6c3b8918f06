use Rattle.std.proofs.Common.{◌∙◌, sym, length-take-le, arith}
use Rattle.queue.proofs.RefusalLaws.{unsound}
use Rattle.queue.proofs.check.AreaLaws.{recs_stand}
use Rattle.queue.proofs.read.ParentsLaws.{chosen_modest, parents_100, parents_3, selected_listed, selected_named}
use Rattle.queue.proofs.read.SelectLaws.{chosen_few, chosen_rising, selected_long}
use Rattle.std.specs.Prelude.{refl}
use Rattle.queue.proofs.read.parents.parents_in.Goals as goal

pub returns-in_err-a : goal.returns-in_err-a
returns-in_err-a c = rw (unsound _ c.from_residual.ensures.1 c.in_err-a.ensures) (parents_3 c.args.area.now c.args.time.0 c.args.height.0 c.args.out.now c.in_err-a.ensures.is)

pub select_places-n-requires : goal.select_places-n-requires
select_places-n-requires c = let u = c.in_ok-a.ensures in (recs_stand u.read.store, refl, chosen_few c.args.time.0 c.args.height.0 u.read)

pub parents_sized-requires : goal.parents_sized-requires
parents_sized-requires c = let u = c.in_ok-a.ensures in (selected_named c.select_places-n.ensures (chosen_rising c.args.time.0 c.args.height.0 u.read) (chosen_modest c.args.time.0 c.args.height.0 u.read), c.requires, selected_long c.select_places-n.ensures ∙ sym (length-take-le c.select_places-n.result _ (omega (arith, c.select_places-n.ensures.few))), omega (arith, selected_long c.select_places-n.ensures, c.select_places-n.ensures.few))

pub returns : goal.returns
returns c = let u = c.in_ok-a.ensures in parents_100 c.args.time.0 c.args.height.0 u.read c.args.out.now u.is (selected_listed c.select_places-n.ensures (chosen_rising c.args.time.0 c.args.height.0 u.read) c.args.out.now c.parents_sized.ensures)
