use Rattle.queue.specs.bytes.ViewAs.{hex_long, shown_hex, shown_raw}
use Rattle.std.proofs.Common.{ap, refl, length, arith}
use Rattle.queue.proofs.bytes.view.View.byte.Goals as goal

within : goal.bounds-self-inside-at-then-self
within c = let h = c.requires in let k = ap length c.self.view_is in omega (arith, k, hex_long c.self.inside.bytes.now c.if-self.true)

pub overflow_mul-at : goal.overflow_mul-at
overflow_mul-at c = let k = ap length c.self.view_is in omega (arith, k, hex_long c.self.inside.bytes.now c.if-self.true)

pub bounds-self-inside-at : goal.bounds-self-inside-at
bounds-self-inside-at c = let k = ap length c.self.view_is in omega (arith, k, hex_long c.self.inside.bytes.now c.if-self.true)

pub overflow_mul-at-then-self : goal.overflow_mul-at-then-self
overflow_mul-at-then-self c = let k = within c in omega arith

pub overflow_add-at : goal.overflow_add-at
overflow_add-at c = let k = within c in omega arith

pub bounds-self-inside-at-then-self : goal.bounds-self-inside-at-then-self
bounds-self-inside-at-then-self c = within c

pub bounds-self-inside-at-else-self : goal.bounds-self-inside-at-else-self
bounds-self-inside-at-else-self c = let k = ap length c.self.view_is in omega (arith, k, ap length (shown_raw c.self.inside.bytes.now c.if-self.false))

pub returns-then-self : goal.returns-then-self
returns-then-self c = rw (c.nib.ensures.is, c.nib-then-self.ensures.is, ← c.self.view_is) (shown_hex c.self.inside.bytes.now c.if-self.true c.args.at (rw c.self.view_is c.requires))

pub returns-else-self : goal.returns-else-self
returns-else-self c = rw (← c.self.view_is, shown_raw c.self.inside.bytes.now c.if-self.false) refl
