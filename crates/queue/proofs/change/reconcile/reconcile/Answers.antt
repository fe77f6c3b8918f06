use Rattle.std.specs.Prelude.{false, refl}
use Rattle.queue.specs.bytes.ViewAs.{view_raw}
use Rattle.queue.proofs.RefusalLaws.{unsound}
use Rattle.queue.proofs.change.ReconcileLaws.{lent_to, reconcile_2, reconcile_3, reconcile_5, reconcile_rest}
use Rattle.std.proofs.Common.{arith}
use Rattle.queue.proofs.change.reconcile.reconcile.Goals as goal

pub returns-in_err-a : goal.returns-in_err-a
returns-in_err-a c = rw (unsound _ c.from_residual.ensures.1 c.in_err-a.ensures) (reconcile_3 _ _ _ _ c.in_err-a.ensures.is)

pub returns-then-next-a : goal.returns-then-next-a
returns-then-next-a c = reconcile_2 c.args.cur.now c.args.next.now c.args.out.now c.in_ok-a.ensures c.args.height c.args.tip.now c.args.applied.now c.args.flag c.args.ids.now c.args.window c.if-next-a.true

pub returns-then-not-reconcile_asks : goal.returns-then-not-reconcile_asks
returns-then-not-reconcile_asks c = reconcile_5 c.args.cur.now c.args.next.now c.args.out.now c.in_ok-a.ensures c.args.height c.args.tip.now c.args.applied.now c.args.flag c.args.ids.now c.args.window c.if-next-a.false c.reconcile_asks.ensures c.if-not-reconcile_asks.true

pub id-i-requires : goal.id-i-requires
id-i-requires c = rw c.new.ensures (omega (arith, view_raw {hex = false} c.args.tip.now 0 refl, (c.reconcile_asks.ensures.good c.if-not-reconcile_asks.false).long))

pub reconcile_lent-requires : goal.reconcile_lent-requires
reconcile_lent-requires c = (c.in_ok-a.ensures, lent_to c.args.cur.now c.args.next.now c.args.out.now c.in_ok-a.ensures c.args.height c.args.tip.now c.args.applied.now c.args.flag c.args.ids.now c.args.window c.if-next-a.false c.reconcile_asks.ensures c.if-not-reconcile_asks.false (rw c.new.ensures at c.id-i.ensures.is) (omega (arith, c.well_formed.0, c.well_formed.1)), c.if-next-a.false)

pub returns : goal.returns
returns c = reconcile_rest c.args.cur.now c.args.next.now c.args.out.now c.in_ok-a.ensures c.args.height c.args.tip.now c.args.applied.now c.args.flag c.args.ids.now c.args.window c.if-next-a.false c.reconcile_asks.ensures c.if-not-reconcile_asks.false (rw c.new.ensures at c.id-i.ensures.is) c.reconcile_lent.ensures
