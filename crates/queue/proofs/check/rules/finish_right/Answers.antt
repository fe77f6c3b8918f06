use Rattle.std.specs.Prelude.{refl}
use Rattle.queue.proofs.check.rules.finish_right.Goals as goal

pub returns-then-holder : goal.returns-then-holder
returns-then-holder c = rw c.if-holder.true refl

pub returns-else-holder : goal.returns-else-holder
returns-else-holder c = rw c.if-holder.false refl
