use Rattle.queue.specs.change.FinishAs.{end_what}
use Rattle.std.specs.Prelude.{cond}
use Rattle.std.proofs.Common.{sym, ap}
use Rattle.queue.proofs.change.finish.ends_as.Goals as goal

pub returns-then-not-hit : goal.returns-then-not-hit
returns-then-not-hit c = ap (λ b. cond b (end_what c.args.c) 0) (sym c.if-not-hit.true)

pub returns-in-Named : goal.returns-in-Named
returns-in-Named c = rw (c.if-not-hit.false, c.in-Named.is)

pub returns-in-Due : goal.returns-in-Due
returns-in-Due c = rw (c.if-not-hit.false, c.in-Due.is)
