use Rattle.queue.proofs.change.RanksLaws.{id_in_law, rank_here, rank_none, rank_other}
use Rattle.queue.proofs.change.RanksPlanLaws.{rank_few}
use Rattle.queue.proofs.read.SortedLaws.{view_room_1}
use Rattle.queue.specs.check.SuspectsAs.{no_r}
use Rattle.std.proofs.Common.{◌∙◌, arith}
use Rattle.queue.proofs.change.ranks.rank_of.Goals as goal

pub rank_in-requires : goal.rank_in-requires
rank_in-requires c = (c.requires.0.0, c.requires.0.1)

pub returns-then-not-ordered : goal.returns-then-not-ordered
returns-then-not-ordered c = c.rank_in.ensures

pub row_at-y-requires : goal.row_at-y-requires
row_at-y-requires c = (view_room_1 _ c.args.base c.requires.2, (c.requires.1 c.if-not-ordered.false).small, omega arith)

pub bisect-b-requires : goal.bisect-b-requires
bisect-b-requires c = (c.requires.1 c.if-not-ordered.false).order

pub returns-then-rows-b : goal.returns-then-rows-b
returns-then-rows-b c = (rank_none c.args.s.now c.args.gone.now c.args.rows.now (c.requires.1 c.if-not-ordered.false) c.row_at-y.result c.args.id c.bisect-b.ensures (c.row_at-y.ensures.0 ∙ id_in_law _ _ ∙ c.requires.3) c.row_at-y.ensures.1 c.if-rows-b.true, omega arith)

pub returns-then-not-is_eq : goal.returns-then-not-is_eq
returns-then-not-is_eq c = (rank_other c.args.s.now c.args.gone.now c.args.rows.now (c.requires.1 c.if-not-ordered.false) c.row_at-y.result c.args.id c.bisect-b.ensures (c.row_at-y.ensures.0 ∙ id_in_law _ _ ∙ c.requires.3) c.row_at-y.ensures.1 (omega (arith, c.if-rows-b.false)) c.cmp_rows.result c.is_eq.ensures c.cmp_rows.ensures c.if-not-is_eq.true, omega arith)

pub returns : goal.returns
unfolding no_r
returns c = let e = rank_here c.args.s.now c.args.gone.now c.args.rows.now (c.requires.1 c.if-not-ordered.false) c.row_at-y.result c.args.id c.bisect-b.ensures (c.row_at-y.ensures.0 ∙ id_in_law _ _ ∙ c.requires.3) c.row_at-y.ensures.1 (omega (arith, c.if-rows-b.false)) c.cmp_rows.result c.is_eq.ensures c.cmp_rows.ensures c.if-not-is_eq.false in (e, rank_few c.args.s.now c.args.gone.now c.args.id e)
