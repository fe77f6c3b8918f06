use Rattle.queue.specs.check.ScanAs.{counts_n}
use Rattle.std.specs.Prelude.{refl}
use Rattle.queue.proofs.check.area.counts_ok.Goals as goal

pub returns : goal.returns
unfolding counts_n
returns c = refl
