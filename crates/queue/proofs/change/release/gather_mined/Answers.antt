use Rattle.queue.proofs.change.ReleaseLaws.{all_at, mine_end, mine_go, mine_room, mine_start, verdict_within}
use Rattle.queue.proofs.layout.TurnLaws.{seen, stands}
use Rattle.std.specs.Prelude.{refl, ◌≡◌, ◌+◌, ◌-◌, ◌<◌, ℕ, false, get_or}
use Rattle.std.proofs.Common.{arith}
use Rattle.queue.proofs.change.release.gather_mined.Goals as goal

pub loop-left-init : goal.loop-left-init
loop-left-init c = mine_start _ _ _ _ _ c.requires.0.0 c.requires.0.1 refl c.requires.2

pub bounds-vs-j : goal.bounds-vs-j
bounds-vs-j c = omega (arith, c.loop-left.invariant.count, c.requires.1.0, c.loop-left-test.true)

pub verdict_of-v-requires : goal.verdict_of-v-requires
verdict_of-v-requires c = all_at _ c.args.vs.now c.loop-left.j c.requires.1.1 (omega (arith, c.loop-left.invariant.count, c.requires.1.0, c.loop-left-test.true))

pub height_after-h-requires : goal.height_after-h-requires
height_after-h-requires c = verdict_within c.args.t.now (get_or c.args.vs.now c.loop-left.j 0) c.verdict_of-v.ensures (all_at _ c.args.vs.now c.loop-left.j c.requires.1.1 (omega (arith, c.loop-left.invariant.count, c.requires.1.0, c.loop-left-test.true)))

pub add_ranked-c-requires : goal.add_ranked-c-requires
add_ranked-c-requires c = λ e. omega (arith, mine_room c.loop-left.invariant c.loop-left-test.true c.record_at-x.ensures c.verdict_of-v.ensures c.requires.1.0 c.requires.1.1 c.mined_after-sel.ensures e, c.loop-left.invariant.few, c.loop-left.invariant.size)

pub after_in-i-requires : goal.after_in-i-requires
after_in-i-requires c = (seen false c.loop-left.invariant.scan c.loop-left-test.true c.record_at-x.ensures).is.1.within

pub overflow_add-j : goal.overflow_add-j
overflow_add-j c = omega (arith, c.loop-left.invariant.count, c.requires.1.0, c.loop-left-test.true, c.well_formed.0, c.well_formed.1)

again : {n : ℕ} → 0 < n → n - 1 + 1 ≡ n
again h = omega arith

pub loop-left-preserved : goal.loop-left-preserved
loop-left-preserved c = mine_go c.loop-left.invariant c.loop-left-test.true c.record_at-x.ensures c.verdict_of-v.ensures c.requires.1.0 c.requires.1.1 c.mined_after-sel.ensures c.height_after-h.ensures (again c.loop-left-test.true) refl c.add_ranked-c.ensures c.after_in-i.ensures

pub returns : goal.returns
returns c = mine_end c.loop-left.invariant (omega arith)

pub record_at-x-requires : goal.record_at-x-requires
record_at-x-requires c = stands false c.loop-left.invariant.scan c.loop-left-test.true
