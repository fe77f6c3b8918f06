use Rattle.std.specs.Prelude.{◌≡◌, ◌+◌, ◌&&◌, eqb}
use Rattle.queue.proofs.check.ScanLaws.{zero_two}
use Rattle.queue.specs.Areas.{zero_in}
use Rattle.queue.proofs.check.scan.zeros_two.Given as goal

abbrev pub invariant-loop-i : goal.invariant-loop-i
invariant-loop-i l = (eqb l.bits 0 && zero_two l.s l.from l.n l.i) ≡ (zero_in l.s l.from (l.from + l.n) && zero_in l.s (l.from + l.n) (l.from + l.n + l.n))
