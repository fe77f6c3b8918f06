use Rattle.queue.specs.check.FilterAs.{hash_n}
use Rattle.std.specs.Prelude.{refl}
use Rattle.queue.proofs.check.filter.hash_number.Goals as goal

pub returns : goal.returns
unfolding hash_n
returns c = refl
