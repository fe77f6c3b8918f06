use Rattle.std.specs.Prelude.{refl}
use Rattle.queue.proofs.change.calls.settle_shape.Goals as goal

pub returns : goal.returns
returns c = refl
