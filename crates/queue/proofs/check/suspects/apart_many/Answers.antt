use Rattle.std.specs.Prelude.{ℕ}
use Rattle.std.proofs.Common.{arith}
use Rattle.queue.proofs.check.SuspectsLaws.{part_some, said_is, said_sure}
use Rattle.std.proofs.lemmas.List.{length-replicate}
use Rattle.queue.proofs.check.suspects.apart_many.Goals as goal

pub slice_bounds-v-end : goal.slice_bounds-v-end
slice_bounds-v-end c = omega (arith, length-replicate {A = ℕ} 65536 0, c.requires.4)

pub clear_by-requires : goal.clear_by-requires
clear_by-requires c = (c.requires.0, c.requires.1, c.requires.2, part_some _ (length-replicate {A = ℕ} 65536 0) c.requires.4 c.requires.3, c.requires.5)

pub unwrap-requires : goal.unwrap-requires
unwrap-requires c = said_sure c.clear_by.ensures

pub returns : goal.returns
returns c = said_is c.clear_by.ensures c.unwrap.ensures
