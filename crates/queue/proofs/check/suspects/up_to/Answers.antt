use Rattle.queue.specs.check.SuspectsAs.{no_r, up_to}
use Rattle.std.specs.Prelude.{refl}
use Rattle.queue.proofs.check.suspects.up_to.Goals as goal

pub returns-in-Less : goal.returns-in-Less
unfolding up_to no_r
returns-in-Less c = rw (← c.cmp_rows.ensures, c.in-Less.is) refl

pub returns-in-Equal : goal.returns-in-Equal
unfolding up_to no_r
returns-in-Equal c = rw (← c.cmp_rows.ensures, c.in-Equal.is) refl

pub returns-in-Greater : goal.returns-in-Greater
unfolding up_to no_r
returns-in-Greater c = rw (← c.cmp_rows.ensures, c.in-Greater.is) refl
