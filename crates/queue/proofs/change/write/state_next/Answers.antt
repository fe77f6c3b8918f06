use Rattle.queue.proofs.change.WriteNextLaws.{state_small}
use Rattle.queue.proofs.change.VerdictLaws.{code_not}
use Rattle.queue.specs.change.PlanAs.{state_n}
use Rattle.queue.specs.declared.change.verdict.Verdict.TheVariants.{Reopened, Cancelled, Expired}
use Rattle.std.proofs.Common.{◌∙◌, arith, ne_eqb}
use Rattle.queue.proofs.change.write.state_next.Goals as goal

pub returns-in-Reopened : goal.returns-in-Reopened
unfolding state_n
returns-in-Reopened c = (c.from.ensures ∙ c.state_again.ensures ∙ rw c.in-Reopened.is, rw (c.from.ensures, c.state_again.ensures) (state_small _))

pub returns-in-Cancelled : goal.returns-in-Cancelled
unfolding state_n
returns-in-Cancelled c = (rw c.in-Cancelled.is, omega arith)

pub returns-in-Expired : goal.returns-in-Expired
unfolding state_n
returns-in-Expired c = (rw c.in-Expired.is, omega arith)

pub returns-in_default : goal.returns-in_default
unfolding state_n
returns-in_default c = (c.state_judged.ensures.0 ∙ rw (ne_eqb _ _ (code_not Reopened c.in_default.not-Reopened), ne_eqb _ _ (code_not Cancelled c.in_default.not-Cancelled), ne_eqb _ _ (code_not Expired c.in_default.not-Expired)), c.state_judged.ensures.1)
