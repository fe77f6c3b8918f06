use Rattle.std.specs.Prelude.{◌-◌}
use Rattle.queue.proofs.check.NumbersLaws.{Between}
use Rattle.queue.proofs.check.numbers.floor_in.Given as goal

abbrev pub invariant-loop-lo : goal.invariant-loop-lo
invariant-loop-lo l = Between l.num l.m l.t l.v l.lo l.hi

abbrev pub decreases-loop-lo : goal.decreases-loop-lo
decreases-loop-lo l = l.hi - l.lo
