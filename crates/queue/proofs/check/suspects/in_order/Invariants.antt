use Rattle.std.specs.Prelude.{◌≡◌, ℕ, ◌+◌, ◌<◌, true, length, get_or}
use Rattle.queue.specs.check.SuspectsAs.{up_to}
use Rattle.queue.proofs.check.suspects.in_order.Given as goal

abbrev pub invariant-loop-i : goal.invariant-loop-i
invariant-loop-i l = (j : ℕ) → j + 1 < l.i → j + 1 < length l.v → up_to l.hex l.s (get_or l.v j 0) (get_or l.v (j + 1) 0) ≡ true
