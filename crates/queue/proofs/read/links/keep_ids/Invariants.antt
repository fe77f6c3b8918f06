use Rattle.std.specs.Prelude.{◌≡◌, ◌+◌, ◌≤◌, false, length, take}
use Rattle.queue.proofs.read.LinksLaws.{Rowing}
use Rattle.queue.specs.bytes.ViewAs.{view}
use Rattle.queue.proofs.read.links.keep_ids.Given as goal

abbrev pub invariant-loop-left : goal.invariant-loop-left
invariant-loop-left l = Rowing l.s l.m (view false l.s l.base) l.c l.at l.initial.slots l.initial.t (take l.k l.initial.v) l.i l._left l.slots l.t (take l.n l.v) × (l.n + l._left ≤ l.k + l.c) × (length l.v ≡ length l.initial.v)
