use Rattle.std.specs.Prelude.{ℕ, ◌+◌, ◌<◌, get_or}
use Rattle.queue.proofs.check.numbers.neighbours_differ.Given as goal

abbrev pub invariant-loop-i : goal.invariant-loop-i
invariant-loop-i l = (j : ℕ) → j + 1 < l.i → get_or l.v j 0 < get_or l.v (j + 1) 0
