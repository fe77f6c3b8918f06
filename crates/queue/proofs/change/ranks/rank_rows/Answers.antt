use Rattle.std.specs.Prelude.{get_or, refl}
use Rattle.std.proofs.Common.{arith}
use Rattle.queue.proofs.change.RanksLaws.{rows_go}
use Rattle.queue.proofs.change.ReleaseLaws.{all_at}
use Rattle.queue.proofs.read.SortedLaws.{view_room_1}
use Rattle.queue.proofs.change.ranks.rank_rows.Goals as goal

pub loop-j-init : goal.loop-j-init
loop-j-init c = (refl, λ j h. absurd (let z : ⊥ = omega arith in z))

pub overflow_add-j : goal.overflow_add-j
overflow_add-j c = let g = c.well_formed in omega (arith, c.requires.1, c.loop-j-test.true)

pub row_at-w-requires : goal.row_at-w-requires
row_at-w-requires c = (view_room_1 _ (get_or c.args.gone.now c.loop-j.j 0) (all_at _ c.args.gone.now c.loop-j.j c.requires.0 c.loop-j-test.true), c.requires.2, omega (arith, c.requires.1, c.loop-j-test.true))

pub put_rank-requires : goal.put_rank-requires
put_rank-requires c = omega (arith, c.loop-j.invariant.0, c.requires.3, c.loop-j-test.true)

pub loop-j-preserved : goal.loop-j-preserved
loop-j-preserved c = (omega (arith, c.loop-j.invariant.0), rows_go c.args.s.now c.args.gone.now c.loop-j.rows c.loop-j.j c.row_at-w.result c.loop-j.invariant.1 (omega (arith, c.loop-j.invariant.0, c.requires.3, c.loop-j-test.true)) c.put_rank.ensures c.row_at-w.ensures.0 c.row_at-w.ensures.1)

pub returns : goal.returns
returns c = record { long = omega (arith, c.loop-j.invariant.0, c.requires.3); at = λ j h. c.loop-j.invariant.1 j (omega (arith, c.loop-j-test.false)) }
