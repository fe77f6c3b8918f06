use Rattle.queue.proofs.check.SuspectsLaws.{looked, looked_none}
use Rattle.queue.proofs.check.SuspectsRowLaws.{shuffled_self}
use Rattle.queue.proofs.check.suspects.crossed.Goals as goal

pub returns-then-v-eq0 : goal.returns-then-v-eq0
returns-then-v-eq0 c = (shuffled_self _, looked_none c.args.form.hex c.args.s.now _ c.args.v.now c.if-v-eq0.true)

pub pass-requires : goal.pass-requires
pass-requires c = (c.requires.0, c.requires.1, c.requires.2, c.in_order-o.ensures)

pub returns : goal.returns
returns c = (c.order_rows.ensures.same, looked c.args.form.hex c.args.s.now _ c.order_rows.ensures.same c.pass.ensures)
