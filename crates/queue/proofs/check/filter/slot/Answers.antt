use Rattle.queue.specs.check.FilterAs.{slot_l}
use Rattle.std.specs.Prelude.{refl}
use Rattle.std.proofs.Common.{mod-lt}
use Rattle.queue.proofs.check.filter.slot.Goals as goal

pub returns : goal.returns
unfolding slot_l
returns c = (refl, mod-lt _ c.requires)
