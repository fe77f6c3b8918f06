use Rattle.std.specs.Prelude.{◌≡◌, drop}
use Rattle.queue.specs.change.TouchAs.{changed?}
use Rattle.queue.specs.paper.Lists.{any?}
use Rattle.queue.proofs.change.touch.any_touched.Given as goal

abbrev pub invariant-loop-v : goal.invariant-loop-v
invariant-loop-v l = any? changed? (drop l.v-index l.vs) ≡ any? changed? l.vs
