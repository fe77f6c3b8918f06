use Rattle.std.specs.Prelude.{refl}
use Rattle.queue.proofs.change.admit.given_id.Goals as goal

pub returns : goal.returns
returns c = refl
