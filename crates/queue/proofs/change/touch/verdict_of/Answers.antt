use Rattle.queue.proofs.change.TouchLaws.{one_is, other_is}
use Rattle.queue.proofs.change.VerdictLaws.{code_not}
use Rattle.queue.specs.change.VerdictAs.{verdict_code}
use Rattle.queue.specs.declared.change.verdict.Verdict.TheVariants.{Confirmed}
use Rattle.std.proofs.Common.{ap, sym, ◌∙◌, arith}
use Rattle.queue.proofs.change.touch.verdict_of.Goals as goal

pub overflow_mul-result : goal.overflow_mul-result
overflow_mul-result c = omega (arith, c.requires (sym c.of_number-what.ensures ∙ ap verdict_code c.in-Confirmed.is), c.well_formed.0)

pub returns-in-Confirmed : goal.returns-in-Confirmed
returns-in-Confirmed c = one_is c.args.c c.of_number-what.ensures (ap verdict_code c.in-Confirmed.is)

pub returns-in_default : goal.returns-in_default
returns-in_default c = other_is c.args.c c.of_number-what.ensures (code_not Confirmed c.in_default.not-Confirmed)
