use Rattle.std.specs.Prelude.{◌≡◌, drop}
use Rattle.queue.specs.check.SuspectsAs.{id_r, later, no_r}
use Rattle.queue.specs.paper.Lists.{any?}
use Rattle.queue.proofs.check.suspects.look_all.Given as goal

abbrev pub invariant-loop-x : goal.invariant-loop-x
invariant-loop-x l = any? (later l.hex l.s (id_r l.hex l.s l.y) (no_r l.y)) (drop l.x-index l.v) ≡ any? (later l.hex l.s (id_r l.hex l.s l.y) (no_r l.y)) l.v
