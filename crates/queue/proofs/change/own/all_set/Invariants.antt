use Rattle.std.specs.Prelude.{◌≡◌, ◌+◌, take, drop}
use Rattle.queue.specs.change.OwnAs.{bits_in, set?}
use Rattle.queue.specs.paper.Lists.{all?}
use Rattle.queue.proofs.change.own.all_set.Given as goal

abbrev pub invariant-loop-left : goal.invariant-loop-left
invariant-loop-left l = (all? set? (take l._left (drop l.i (bits_in l.flags))) ≡ all? set? (take l.c (drop l.g (bits_in l.flags)))) × (l.i + l._left ≡ l.g + l.c)
