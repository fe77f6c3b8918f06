use Rattle.queue.proofs.change.VerdictLaws.{code_not}
use Rattle.queue.specs.declared.change.verdict.Verdict.TheVariants.{Stays, Confirmed, Queued}
use Rattle.std.proofs.Common.{arith, eq-eqb, ne_eqb}
use Rattle.queue.proofs.change.write.reason_judged.Goals as goal

pub returns-then-n-ne0 : goal.returns-then-n-ne0
returns-then-n-ne0 c = (rw (ne_eqb _ _ c.if-n-ne0.true), omega arith)

pub returns-in-Stays : goal.returns-in-Stays
returns-in-Stays c = (rw (eq-eqb _ _ c.if-n-ne0.false, c.in-Stays.is), c.requires)

pub returns-in-Confirmed : goal.returns-in-Confirmed
returns-in-Confirmed c = (rw (eq-eqb _ _ c.if-n-ne0.false, c.in-Confirmed.is), omega arith)

pub returns-in-Queued : goal.returns-in-Queued
returns-in-Queued c = (rw (eq-eqb _ _ c.if-n-ne0.false, c.in-Queued.is), omega arith)

pub returns-in_default : goal.returns-in_default
returns-in_default c = (rw (eq-eqb _ _ c.if-n-ne0.false, ne_eqb _ _ (code_not Stays c.in_default.not-Stays), ne_eqb _ _ (code_not Confirmed c.in_default.not-Confirmed), ne_eqb _ _ (code_not Queued c.in_default.not-Queued)), omega arith)
