use Rattle.std.specs.Prelude.{refl}
use Rattle.queue.proofs.change.admit.over_k.Goals as goal

pub returns : goal.returns
returns c = refl
