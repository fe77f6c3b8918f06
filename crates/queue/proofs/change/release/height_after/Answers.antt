use Rattle.std.specs.Prelude.{false, refl}
use Rattle.queue.specs.bytes.ViewAs.{view_raw}
use Rattle.queue.proofs.change.ReleaseLaws.{height_new, height_old, height_told}
use Rattle.queue.proofs.change.VerdictLaws.{code_not}
use Rattle.queue.specs.change.TouchAs.{verdict_numbers}
use Rattle.queue.specs.change.VerdictAs.{verdict_code}
use Rattle.queue.specs.declared.change.verdict.Verdict.TheVariants.{Confirmed}
use Rattle.std.proofs.Common.{ap, arith, ◌∙◌}
use Rattle.queue.proofs.change.release.height_after.Goals as goal

pub overflow_add-v : goal.overflow_add-v
overflow_add-v c = omega (arith, c.requires (ap verdict_code c.in-Confirmed.is), c.well_formed.0)

pub be-requires-clause-inside : goal.be-requires-clause-inside
be-requires-clause-inside c = rw c.new.ensures (omega (arith, view_raw {hex = false} c.args.t.now 0 refl, c.requires (ap verdict_code c.in-Confirmed.is)))

pub returns-in-Confirmed : goal.returns-in-Confirmed
returns-in-Confirmed c = height_new c.args.t.now (verdict_numbers c.args.v) c.args.f (ap verdict_code c.in-Confirmed.is) (rw c.new.ensures at c.be.ensures.is)

pub returns-in_default : goal.returns-in_default
returns-in_default c = height_told c.args.f.mined c.unwrap_or.ensures ∙ height_old c.args.t.now (verdict_numbers c.args.v) c.args.f (code_not Confirmed c.in_default.not-Confirmed)
