use Rattle.queue.proofs.change.ReconcileLaws.{changed_is, gone_102, gone_10x, gone_15, gone_4}
use Rattle.std.proofs.Common.{sym, ◌∙◌, arith}
use Rattle.std.specs.Prelude.{refl}
use Rattle.queue.proofs.change.reconcile.reconcile_gone.Goals as goal

pub overflow_sub-c : goal.overflow_sub-c
overflow_sub-c c = omega (arith, c.requires.0.read.store.head.counter_small)

pub returns-then-c-g : goal.returns-then-c-g
returns-then-c-g c = gone_15 c.requires.0 c.requires.1 c.requires.2 c.requires.3 _ _ c.if-c-g.true

pub returns-then-out-g : goal.returns-then-out-g
returns-then-out-g c = gone_4 c.requires.0 c.requires.1 c.requires.2 c.requires.3 (omega (arith, c.if-c-g.false, c.requires.0.read.store.head.counter_small)) _ _ c.if-out-g.true

pub put_gone-requires : goal.put_gone-requires
put_gone-requires c = (c.requires.3.placed, c.requires.3.few, c.if-out-g.false)

pub put_whole-requires : goal.put_whole-requires
put_whole-requires c = (c.requires.0, c.requires.1, c.requires.2, c.requires.3, (omega (arith, c.if-c-g.false, c.requires.0.read.store.head.counter_small)), λ q e. sym c.if-changed.true ∙ (changed_is c.requires.0 c.requires.1 c.requires.2 c.requires.3 c.any_touched.ensures refl) q e, c.requires.4, omega (arith, c.if-g-eq0.true))

pub returns-then-g-eq0 : goal.returns-then-g-eq0
returns-then-g-eq0 c = gone_102 c.requires.0 c.requires.1 c.requires.2 c.requires.3 (omega (arith, c.if-c-g.false, c.requires.0.read.store.head.counter_small)) _ _ c.if-out-g.false ((changed_is c.requires.0 c.requires.1 c.requires.2 c.requires.3 c.any_touched.ensures refl) c.requires.0.q c.requires.0.is) c.put_gone.ensures c.if-changed.true c.put_whole.ensures

pub put_whole-requires-then-changed : goal.put_whole-requires-then-changed
put_whole-requires-then-changed c = (c.requires.0, c.requires.1, c.requires.2, c.requires.3, (omega (arith, c.if-c-g.false, c.requires.0.read.store.head.counter_small)), λ q e. sym c.if-changed.true ∙ (changed_is c.requires.0 c.requires.1 c.requires.2 c.requires.3 c.any_touched.ensures refl) q e, c.requires.4, refl)

pub returns-then-changed : goal.returns-then-changed
returns-then-changed c = gone_102 c.requires.0 c.requires.1 c.requires.2 c.requires.3 (omega (arith, c.if-c-g.false, c.requires.0.read.store.head.counter_small)) _ _ c.if-out-g.false ((changed_is c.requires.0 c.requires.1 c.requires.2 c.requires.3 c.any_touched.ensures refl) c.requires.0.q c.requires.0.is) c.put_gone.ensures c.if-changed.true c.put_whole-then-changed.ensures

pub put_cursor-requires : goal.put_cursor-requires
put_cursor-requires c = (c.requires.0, c.requires.1.ok.height, c.requires.1.ok.tip, c.requires.4)

pub returns : goal.returns
returns c = gone_10x c.requires.0 c.requires.1 c.requires.2 c.requires.3 (omega (arith, c.if-c-g.false, c.requires.0.read.store.head.counter_small)) _ _ c.if-out-g.false ((changed_is c.requires.0 c.requires.1 c.requires.2 c.requires.3 c.any_touched.ensures refl) c.requires.0.q c.requires.0.is) c.put_gone.ensures c.if-changed.false c.put_cursor.ensures
