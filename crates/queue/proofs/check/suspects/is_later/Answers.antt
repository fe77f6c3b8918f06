use Rattle.queue.proofs.check.SuspectsRowLaws.{same_row}
use Rattle.queue.specs.check.SuspectsAs.{later, no_r}
use Rattle.std.specs.Prelude.{refl}
use Rattle.queue.proofs.check.suspects.is_later.Goals as goal

pub returns : goal.returns
unfolding later no_r
returns c = rw (same_row c.cmp_rows.result c.is_eq.ensures c.cmp_rows.ensures) refl
