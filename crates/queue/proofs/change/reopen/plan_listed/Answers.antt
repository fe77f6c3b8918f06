use Rattle.queue.proofs.change.FinishLaws.{raw_within}
use Rattle.queue.proofs.change.PlanLaws.{plan_room, visit_low, visit_turn, visit_stands}
use Rattle.queue.proofs.change.ReopenLaws.{list_plan, listed_end, listed_go, listed_packs}
use Rattle.queue.specs.change.ReopenAs.{ids_at}
use Rattle.std.proofs.Common.{sym, ◌∙◌, arith}
use Rattle.std.specs.Prelude.{refl}
use Rattle.queue.proofs.change.reopen.plan_listed.Goals as goal

pub loop-left-init : goal.loop-left-init
loop-left-init c = list_plan c.args.a.open.head.counter.0 (ids_at c.args.ids.now c.args.k) c.args.rows.now c.requires.0 c.requires.2

pub listed-hit-requires : goal.listed-hit-requires
listed-hit-requires c = c.requires.1

pub push_row-c-requires : goal.push_row-c-requires
push_row-c-requires c = (plan_room c.loop-left.invariant.loop c.requires.0 c.loop-left-test.true, listed_packs c.loop-left.invariant c.loop-left-test.true c.record_at-x.ensures c.listed-hit.ensures c.opens_as.ensures (visit_low c.loop-left.invariant.loop.visit c.requires.0))

pub overflow_add-i : goal.overflow_add-i
overflow_add-i c = omega (arith, raw_within (visit_turn c.loop-left.invariant.loop.visit c.loop-left-test.true c.record_at-x.ensures).is, c.well_formed.0)

pub loop-left-preserved : goal.loop-left-preserved
loop-left-preserved c = listed_go c.loop-left.invariant c.loop-left-test.true c.record_at-x.ensures c.listed-hit.ensures c.opens_as.ensures c.requires.0.read.store.head.counter_small c.push_row-c.ensures

pub shape_of-rows : goal.shape_of-rows
shape_of-rows c = c.loop-left.invariant.loop.long ∙ sym c.requires.2

pub returns : goal.returns
returns c = listed_end c.loop-left.invariant c.requires.0 refl (omega arith)

pub record_at-x-requires : goal.record_at-x-requires
record_at-x-requires c = visit_stands c.loop-left.invariant.loop.visit c.loop-left-test.true
