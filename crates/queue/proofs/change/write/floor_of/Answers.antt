use Rattle.queue.proofs.change.FinishFloorLaws.{held_here, tombs_here}
use Rattle.queue.proofs.change.WriteLaws.{floor_needs}
use Rattle.std.specs.Prelude.{refl}
use Rattle.std.proofs.Common.{inl, arith}
use Rattle.queue.proofs.change.write.floor_of.Goals as goal

pub overflow_sub-h : goal.overflow_sub-h
overflow_sub-h c = held_here c.requires.0.read

pub overflow_add-h : goal.overflow_add-h
overflow_add-h c = omega (arith, c.requires.0.read.store.head.count_small, c.requires.1)

pub returns-then-h-u : goal.returns-then-h-u
returns-then-h-u c = inl (omega (arith, tombs_here c.requires.0.read, c.if-h-u.true), refl)

pub floor-requires : goal.floor-requires
floor-requires c = floor_needs c.requires.0.read c.args.m c.requires.1 c.requires.2
