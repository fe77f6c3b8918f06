use Rattle.queue.specs.change.ReleaseAs.{mined_f}
use Rattle.queue.proofs.change.VerdictLaws.{code_not}
use Rattle.queue.specs.declared.change.verdict.Verdict.TheVariants.{Confirmed, Stays}
use Rattle.std.proofs.Common.{ne_eqb}
use Rattle.queue.proofs.change.release.mined_after.Goals as goal

pub returns-in-Confirmed : goal.returns-in-Confirmed
unfolding mined_f
returns-in-Confirmed c = rw c.in-Confirmed.is

pub returns-in-Stays : goal.returns-in-Stays
unfolding mined_f
returns-in-Stays c = rw c.in-Stays.is

pub returns-in_default : goal.returns-in_default
unfolding mined_f
returns-in_default c = rw (ne_eqb _ _ (code_not Confirmed c.in_default.not-Confirmed), ne_eqb _ _ (code_not Stays c.in_default.not-Stays))
