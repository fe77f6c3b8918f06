use Rattle.queue.proofs.check.NumbersLaws.{floor_found, floor_zero, numbers_low}
use Rattle.std.proofs.Common.{sym, arith, length-take-le}
use Rattle.std.specs.Prelude.{refl}
use Rattle.queue.proofs.change.finish.floor.Goals as goal

pub gather-k-requires : goal.gather-k-requires
gather-k-requires c = (c.requires.0, c.requires.7)

pub returns-then-k-m : goal.returns-then-k-m
returns-then-k-m c = floor_zero _ _ _ c.gather-k.result c.gather-k.new.v _ (omega (arith, c.gather-k.ensures.1, c.gather-k.ensures.2)) c.gather-k.ensures.0 c.if-k-m.true refl

pub slice_bounds-floor_in-end : goal.slice_bounds-floor_in-end
slice_bounds-floor_in-end c = sym (length-take-le _ _ (omega (arith, c.gather-k.ensures.1, c.gather-k.ensures.2)))

pub floor_in-requires : goal.floor_in-requires
floor_in-requires c = (omega (arith, c.gather-k.ensures.1, length-take-le c.gather-k.result c.gather-k.new.v (omega (arith, c.gather-k.ensures.1, c.gather-k.ensures.2))), omega (arith, c.requires.1, c.requires.2), c.requires.3, c.requires.4, numbers_low c.gather-k.result c.gather-k.new.v _ _ c.gather-k.ensures.0 c.requires.6)

pub returns : goal.returns
returns c = floor_found _ _ _ c.gather-k.result c.gather-k.new.v _ (omega (arith, c.gather-k.ensures.1, c.gather-k.ensures.2)) c.gather-k.ensures.0 c.floor_in.ensures
