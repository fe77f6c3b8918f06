use Rattle.std.proofs.lemmas.Bool.{eqb-false}
use Rattle.std.specs.Prelude.{false, refl}
use Rattle.queue.specs.bytes.ViewAs.{view_raw}
use Rattle.std.proofs.Common.{sym, ◌∙◌, arith, eqb-true}
use Rattle.queue.proofs.change.RanksPlanLaws.{rank_end, rank_few, rank_go, rank_room, rank_start, rank_stop}
use Rattle.queue.proofs.change.ranks.rank_in.Goals as goal

pub loop-j-init : goal.loop-j-init
loop-j-init c = rank_start _ _ _

pub overflow_add-p : goal.overflow_add-p
overflow_add-p c = omega (arith, rank_room c.args.s.now c.args.gone.now c.loop-j.j c.requires.0 c.loop-j-test.true, c.well_formed.0)

pub id-y-requires : goal.id-y-requires
id-y-requires c = rw c.new-v.ensures (omega (arith, view_raw {hex = false} c.args.s.now 0 refl, rank_room c.args.s.now c.args.gone.now c.loop-j.j c.requires.0 c.loop-j-test.true))

pub overflow_add-result : goal.overflow_add-result
overflow_add-result c = omega (arith, c.loop-j-test.true, c.requires.1)

pub returns-then-same_id : goal.returns-then-same_id
returns-then-same_id c = let e = rank_stop c.loop-j.invariant c.loop-j-test.true (rw c.new-v.ensures at c.id-y.ensures.is) (eqb-true _ 1 (sym c.same_id.ensures ∙ c.if-same_id.true)) in (e, rank_few c.args.s.now c.args.gone.now c.args.id e)

pub loop-j-preserved : goal.loop-j-preserved
loop-j-preserved c = rank_go c.loop-j.invariant c.loop-j-test.true (rw c.new-v.ensures at c.id-y.ensures.is) (eqb-false _ 1 (sym c.same_id.ensures ∙ c.if-same_id.false))

pub returns : goal.returns
returns c = (rank_end c.loop-j.invariant (omega arith), omega arith)
