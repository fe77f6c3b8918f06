use Rattle.queue.specs.check.RulesAs.{due_f}
use Rattle.std.specs.Prelude.{refl}
use Rattle.queue.proofs.check.rules.is_due.Goals as goal

pub returns : goal.returns
unfolding due_f
returns c = rw (c.pending.ensures, c.time_reached.ensures, c.height_reached.ensures) refl
