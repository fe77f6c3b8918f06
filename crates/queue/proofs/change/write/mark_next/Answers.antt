use Rattle.queue.proofs.change.VerdictLaws.{code_not}
use Rattle.queue.specs.change.PlanAs.{mark_n}
use Rattle.queue.specs.declared.change.verdict.Verdict.TheVariants.{Confirmed, Reopened}
use Rattle.std.proofs.Common.{◌∙◌, arith, ne_eqb}
use Rattle.queue.proofs.change.write.mark_next.Goals as goal

pub returns-in-Reopened : goal.returns-in-Reopened
unfolding mark_n
returns-in-Reopened c = (rw c.in-Reopened.is, omega arith)

pub mark_confirmed-requires : goal.mark_confirmed-requires
mark_confirmed-requires c = c.requires

pub returns-in-Confirmed : goal.returns-in-Confirmed
unfolding mark_n
returns-in-Confirmed c = (c.mark_confirmed.ensures.0 ∙ rw c.in-Confirmed.is, c.mark_confirmed.ensures.1)

pub returns-in_default : goal.returns-in_default
unfolding mark_n
returns-in_default c = (rw (ne_eqb _ _ (code_not Confirmed c.in_default.not-Confirmed), ne_eqb _ _ (code_not Reopened c.in_default.not-Reopened)), c.requires.1)
