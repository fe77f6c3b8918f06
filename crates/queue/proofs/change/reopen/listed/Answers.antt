use Rattle.queue.specs.change.ReopenAs.{listed_s}
use Rattle.std.proofs.Common.{eq-eqb, ne_eqb}
use Rattle.queue.proofs.change.reopen.listed.Goals as goal

pub returns-then-f : goal.returns-then-f
unfolding listed_s
returns-then-f c = rw (ne_eqb _ _ c.if-f.true)

pub returns : goal.returns
unfolding listed_s
returns c = rw (eq-eqb _ _ c.if-f.false) c.find_lent.ensures
