use Rattle.std.specs.Prelude.{◌≡◌, length}
use Rattle.queue.proofs.change.ReleaseLaws.{Walking}
use Rattle.queue.specs.check.AreaAs.{limits}
use Rattle.queue.proofs.change.release.release.Given as goal

abbrev pub invariant-loop-j : goal.invariant-loop-j
invariant-loop-j l = Walking (limits l.p l.b 0 0) l.height.0 l.window l.s l.rows (length l.initial.gone) l.gone l.j l.g l.sum × (l.decided ≡ l.j)
