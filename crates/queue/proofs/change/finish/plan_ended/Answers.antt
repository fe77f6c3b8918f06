use Rattle.queue.specs.Basics.{one_most, one_of}
use Rattle.queue.proofs.change.FinishLaws.{raw_within}
use Rattle.queue.proofs.change.PlanLaws.{fate_is, plan_room, visit_low, visit_turn, visit_stands}
use Rattle.queue.proofs.change.WritePlanLaws.{end_plan, ended_end, ended_go, ended_number, ended_packs}
use Rattle.queue.specs.change.PlanAs.{number_n, stay_f}
use Rattle.std.proofs.Common.{sym, ap, ◌∙◌, arith}
use Rattle.std.specs.Prelude.{refl, cond}
use Rattle.queue.proofs.change.finish.plan_ended.Goals as goal

pub loop-left-init : goal.loop-left-init
loop-left-init c = end_plan c.args.a.open.head.counter.0 c.args.c c.args.id c.args.floor.0 c.args.rows.now c.requires.0 c.requires.1

pub rank_next-rank-requires : goal.rank_next-rank-requires
rank_next-rank-requires c = omega (arith, c.loop-left.invariant.nums, c.requires.2)

pub fate_of-what-requires : goal.fate_of-what-requires
fate_of-what-requires c = ended_number c.loop-left.invariant c.loop-left-test.true c.record_at-x.ensures c.picks-hit.ensures c.rank_next-rank.ensures c.requires.3

pub push_row-k-requires : goal.push_row-k-requires
push_row-k-requires c = (plan_room c.loop-left.invariant.loop c.requires.0 c.loop-left-test.true, ended_packs c.loop-left.invariant c.loop-left-test.true c.record_at-x.ensures c.picks-hit.ensures c.rank_next-rank.ensures (fate_is (stay_f (number_n c.args.a.open.head.counter.0 c.rank_next-rank.result) c.args.floor.0 c.record_at-x.result.facts) _ c.fate_of-what.ensures c.ends_as-ended.ensures) (visit_low c.loop-left.invariant.loop.visit c.requires.0) c.requires.2)

pub overflow_add-kept : goal.overflow_add-kept
overflow_add-kept c = omega (arith, c.loop-left.invariant.loop.less, c.from-kept.ensures, one_most c.is_kept.result, c.requires.0.read.store.head.count_small)

pub overflow_add-given : goal.overflow_add-given
overflow_add-given c = omega (arith, c.loop-left.invariant.nums, c.requires.2, c.from-given.ensures, one_most c.picks-hit.result)

pub overflow_add-i : goal.overflow_add-i
overflow_add-i c = omega (arith, raw_within (visit_turn c.loop-left.invariant.loop.visit c.loop-left-test.true c.record_at-x.ensures).is, c.well_formed.0)

pub loop-left-preserved : goal.loop-left-preserved
loop-left-preserved c = ended_go c.loop-left.invariant c.loop-left-test.true c.record_at-x.ensures c.picks-hit.ensures c.rank_next-rank.ensures (fate_is (stay_f (number_n c.args.a.open.head.counter.0 c.rank_next-rank.result) c.args.floor.0 c.record_at-x.result.facts) _ c.fate_of-what.ensures c.ends_as-ended.ensures) c.push_row-k.ensures c.requires.3 (c.from-kept.ensures ∙ one_of c.is_kept.result ∙ ap (λ b. cond b 1 0) c.is_kept.ensures) (c.from-given.ensures ∙ one_of c.picks-hit.result)

pub shape_of-rows : goal.shape_of-rows
shape_of-rows c = c.loop-left.invariant.loop.long ∙ sym c.requires.1

pub returns : goal.returns
returns c = ended_end c.loop-left.invariant c.requires.0 refl (omega arith)

pub record_at-x-requires : goal.record_at-x-requires
record_at-x-requires c = visit_stands c.loop-left.invariant.loop.visit c.loop-left-test.true
