use Rattle.std.specs.Prelude.{◌+◌, Bool, cond, length}
use Rattle.std.proofs.Common.{sym, ap, arith, eq-eqb, ne_eqb}
use Rattle.queue.proofs.change.admit.label_size.Goals as goal

pub returns-then-flag-eq1 : goal.returns-then-flag-eq1
returns-then-flag-eq1 c = (sym (ap (λ (b : Bool). cond b (2 + length c.args.label.now) 1) (eq-eqb c.args.flag 1 c.if-flag-eq1.true)), omega (arith, c.requires c.if-flag-eq1.true))

pub returns-else-flag-eq1 : goal.returns-else-flag-eq1
returns-else-flag-eq1 c = (sym (ap (λ (b : Bool). cond b (2 + length c.args.label.now) 1) (ne_eqb c.args.flag 1 c.if-flag-eq1.false)), omega arith)
