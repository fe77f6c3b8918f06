use Rattle.queue.specs.bytes.OrderAs.{order_lt}
use Rattle.std.specs.Prelude.{ℕ, eqb}
use Rattle.std.proofs.Common.{ap, ◌∙◌}
use Rattle.queue.proofs.check.scan.is_above.Goals as goal

pub returns-in-Some : goal.returns-in-Some
returns-in-Some c = rw c.in-Some.is (c.is_lt.ensures ∙ order_lt c.compare_ids.result ∙ ap (λ (n : ℕ). eqb n 0) c.compare_ids.ensures)
