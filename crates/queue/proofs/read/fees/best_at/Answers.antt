use Rattle.std.specs.Prelude.{length, refl}
use Rattle.std.proofs.Common.{sym, arith, length-take-le}
use Rattle.queue.proofs.read.fees.best_at.Goals as goal

pub fill-requires : goal.fill-requires
fill-requires c = (c.requires.0, refl, c.requires.1)

pub slice_bounds-candidates-end : goal.slice_bounds-candidates-end
slice_bounds-candidates-end c = omega (arith, c.requires.0)

pub slice_bounds-best_known-end : goal.slice_bounds-best_known-end
slice_bounds-best_known-end c = sym (length-take-le (length c.args.at.now) _ (omega (arith, c.requires.0, c.fill.ensures.1)))

pub best_known-requires : goal.best_known-requires
best_known-requires c = (c.requires.0, c.requires.1, c.fill.ensures.0, c.requires.2, c.requires.3)

pub returns : goal.returns
returns c = c.best_known.ensures
