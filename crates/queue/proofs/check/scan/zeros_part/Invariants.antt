use Rattle.std.specs.Prelude.{◌≡◌, ◌-◌, ◌&&◌, eqb, take, drop}
use Rattle.queue.specs.Areas.{zero?}
use Rattle.queue.proofs.check.scan.zeros_part.Given as goal

abbrev pub invariant-loop-i : goal.invariant-loop-i
invariant-loop-i l = (eqb l.bits 0 && zero? (take (l.to - l.i) (drop l.i l.s))) ≡ zero? (take (l.to - l.from) (drop l.from l.s))
