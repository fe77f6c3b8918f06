use Rattle.std.specs.Prelude.{◌%◌, not, get_or, refl}
use Rattle.std.proofs.Common.{sym, ap, arith, eq-eqb, ne_eqb}
use Rattle.queue.proofs.check.SuspectsRowLaws.{any_end, any_go, any_stop}
use Rattle.queue.specs.change.TouchAs.{changed?}
use Rattle.queue.proofs.change.touch.any_touched.Goals as goal

pub loop-v-init : goal.loop-v-init
loop-v-init c = refl

pub returns-then-v : goal.returns-then-v
returns-then-v c = any_stop changed? c.args.vs.now c.loop-v.v-index c.loop-v.invariant c.loop-v-test.true (sym (ap not (ne_eqb (get_or c.args.vs.now c.loop-v.v-index 0 % 4) 0 c.if-v.true))) refl

pub loop-v-preserved : goal.loop-v-preserved
loop-v-preserved c = any_go changed? c.args.vs.now c.loop-v.v-index c.loop-v.invariant c.loop-v-test.true (sym (ap not (eq-eqb (get_or c.args.vs.now c.loop-v.v-index 0 % 4) 0 c.if-v.false))) refl

pub returns : goal.returns
returns c = any_end changed? c.args.vs.now c.loop-v.v-index c.loop-v.invariant (omega (arith, c.loop-v-test.false))
