use Rattle.queue.specs.Basics.{one_most, one_of}
use Rattle.queue.proofs.change.FinishLaws.{raw_within}
use Rattle.queue.proofs.change.PlanLaws.{fate_is, few_records, plan_room, visit_low, visit_turn, visit_stands}
use Rattle.queue.proofs.change.RanksPlanLaws.{judge_plan, judged_end, judged_go, judged_packs}
use Rattle.queue.proofs.read.ReadingLaws.{id_here}
use Rattle.queue.specs.change.PlanAs.{number_n, stay_f}
use Rattle.std.proofs.Common.{sym, ap, ◌∙◌, arith}
use Rattle.std.specs.Prelude.{refl, cond}
use Rattle.queue.proofs.change.ranks.plan_judged.Goals as goal

pub loop-left-init : goal.loop-left-init
loop-left-init c = judge_plan c.args.a.open.head.counter.0 c.args.t.now c.args.vs.now c.args.gone.now c.args.floor.0 c.args.rows.now c.requires.0 c.requires.4

pub rank_of-rank-requires : goal.rank_of-rank-requires
rank_of-rank-requires c = let w = visit_turn c.loop-left.invariant.loop.visit c.loop-left-test.true c.record_at-x.ensures in let d = id_here c.loop-left.invariant.loop.visit.within w.is in ((c.requires.2.0, c.requires.2.1), c.requires.2.2, omega (arith, d.1), d.0 ∙ sym w.is.0.id)

pub offset_bounds-vs-j : goal.offset_bounds-vs-j
offset_bounds-vs-j c = record { fits = omega (arith, c.loop-left.invariant.index, c.loop-left-test.true, c.requires.0.read.store.head.count_small) }

pub bounds-vs-j : goal.bounds-vs-j
bounds-vs-j c = omega (arith, c.loop-left.invariant.index, c.requires.1.0, c.loop-left-test.true)

pub fate_of-what-requires : goal.fate_of-what-requires
fate_of-what-requires c = omega (arith, c.rank_of-rank.ensures.1, c.requires.3)

pub push_row-k-requires : goal.push_row-k-requires
push_row-k-requires c = (plan_room c.loop-left.invariant.loop c.requires.0 c.loop-left-test.true, judged_packs c.loop-left.invariant c.requires.1.0 c.loop-left-test.true c.record_at-x.ensures c.rank_of-rank.ensures.0 (fate_is (stay_f (number_n c.args.a.open.head.counter.0 c.rank_of-rank.result) c.args.floor.0 c.record_at-x.result.facts) _ c.fate_of-what.ensures c.of_number-verdict.ensures) (visit_low c.loop-left.invariant.loop.visit c.requires.0) (few_records c.requires.0) c.requires.2.1)

pub overflow_add-kept : goal.overflow_add-kept
overflow_add-kept c = omega (arith, c.loop-left.invariant.loop.less, c.from-kept.ensures, one_most c.is_kept.result, c.requires.0.read.store.head.count_small)

pub overflow_add-i : goal.overflow_add-i
overflow_add-i c = omega (arith, raw_within (visit_turn c.loop-left.invariant.loop.visit c.loop-left-test.true c.record_at-x.ensures).is, c.well_formed.0)

pub overflow_add-j : goal.overflow_add-j
overflow_add-j c = omega (arith, c.loop-left.invariant.index, c.requires.0.read.store.head.count_small, c.loop-left-test.true)

pub loop-left-preserved : goal.loop-left-preserved
loop-left-preserved c = judged_go c.loop-left.invariant c.requires.1.0 c.loop-left-test.true c.record_at-x.ensures c.rank_of-rank.ensures.0 (fate_is (stay_f (number_n c.args.a.open.head.counter.0 c.rank_of-rank.result) c.args.floor.0 c.record_at-x.result.facts) _ c.fate_of-what.ensures c.of_number-verdict.ensures) c.push_row-k.ensures c.requires.1.1 c.requires.3 (c.from-kept.ensures ∙ one_of c.is_kept.result ∙ ap (λ b. cond b 1 0) c.is_kept.ensures)

pub shape_of-rows : goal.shape_of-rows
shape_of-rows c = c.loop-left.invariant.loop.long ∙ sym c.requires.4

pub returns : goal.returns
returns c = judged_end c.loop-left.invariant c.requires.0 refl (omega arith)

pub record_at-x-requires : goal.record_at-x-requires
record_at-x-requires c = visit_stands c.loop-left.invariant.loop.visit c.loop-left-test.true
