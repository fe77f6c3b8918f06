use Rattle.std.specs.Prelude.{◌-◌}
use Rattle.queue.proofs.layout.RisingLaws.{Finding}
use Rattle.queue.specs.change.TouchAs.{entry_ids}
use Rattle.queue.proofs.change.touch.find_entry.Given as goal

abbrev pub invariant-loop-lo : goal.invariant-loop-lo
invariant-loop-lo l = Finding l.id (entry_ids l.t l.k) l.lo l.hi

abbrev pub decreases-loop-lo : goal.decreases-loop-lo
decreases-loop-lo l = l.hi - l.lo
