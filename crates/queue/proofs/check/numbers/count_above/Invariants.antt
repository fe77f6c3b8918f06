use Rattle.std.specs.Prelude.{◌≡◌, ℕ, ◌+◌, ◌≤◌, ltb, drop}
use Rattle.queue.specs.paper.Lists.{count}
use Rattle.queue.proofs.check.numbers.count_above.Given as goal

abbrev pub invariant-loop-y : goal.invariant-loop-y
invariant-loop-y l = (l.total + count (λ (y : ℕ). ltb l.x y) (drop l.y-index l.v) ≡ count (λ (y : ℕ). ltb l.x y) l.v) × (l.total ≤ l.y-index)
