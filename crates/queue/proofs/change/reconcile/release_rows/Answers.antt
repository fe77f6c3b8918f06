use Rattle.std.proofs.Common.{◌∙◌, ap, arith}
use Rattle.queue.specs.check.AreaAs.{limits}
use Rattle.queue.specs.change.ReleaseAs.{walk_r}
use Rattle.queue.proofs.change.ReconcileLaws.{rows_long, rows_stand}
use Rattle.queue.proofs.change.reconcile.release_rows.Goals as goal

pub order_ranked-requires : goal.order_ranked-requires
order_ranked-requires c = c.requires.0

pub release-requires : goal.release-requires
release-requires c = let k = rows_long c.args.s.now c.args.rows.now c.order_ranked.new.rows c.order_ranked.ensures in (omega (arith, k, c.requires.1, c.requires.2), omega (arith, k, c.requires.1), rows_stand c.args.s.now c.args.rows.now c.order_ranked.new.rows c.order_ranked.ensures c.requires.3)

pub returns : goal.returns
returns c = let k = rows_long c.args.s.now c.args.rows.now c.order_ranked.new.rows c.order_ranked.ensures in (omega (arith, k, c.release.ensures.0), c.release.ensures.1 ∙ ap (walk_r (limits c.args.p c.args.b 0 0) c.args.height.0 c.args.window c.args.s.now 0 0) c.order_ranked.ensures, c.release.ensures.2, c.release.ensures.3 ∙ k)
