use Rattle.std.specs.Prelude.{refl}
use Rattle.queue.proofs.check.rules.held_right.Goals as goal

pub returns : goal.returns
returns c = rw c.pending.ensures refl
