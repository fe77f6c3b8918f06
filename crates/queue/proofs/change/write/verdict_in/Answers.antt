use Rattle.queue.proofs.change.PlanLaws.{verdict_read}
use Rattle.queue.proofs.change.VerdictLaws.{code_not}
use Rattle.queue.specs.change.PlanAs.{row_numbers}
use Rattle.queue.specs.change.TouchAs.{VerdictNumbers}
use Rattle.queue.specs.change.VerdictAs.{verdict_code}
use Rattle.queue.specs.declared.change.verdict.Verdict.TheVariants.{Confirmed}
use Rattle.std.specs.Prelude.{◌≡◌, ◌*◌, ◌/◌, get_or}
use Rattle.std.proofs.Common.{ap, ◌∙◌, arith, eq-eqb, ne_eqb}
use Rattle.queue.proofs.change.write.verdict_in.Goals as goal

pub offset_bounds-vs-i : goal.offset_bounds-vs-i
offset_bounds-vs-i c = record { fits = omega (arith, (c.requires (ap verdict_code c.in-Confirmed.is)).0, c.well_formed.1) }

pub bounds-vs-i : goal.bounds-vs-i
bounds-vs-i c = (c.requires (ap verdict_code c.in-Confirmed.is)).0

pub verdict_of-requires : goal.verdict_of-requires
verdict_of-requires c = λ _. (c.requires (ap verdict_code c.in-Confirmed.is)).2

pub returns-in-Confirmed : goal.returns-in-Confirmed
returns-in-Confirmed c =
    let h : verdict_code c.args.x.what ≡ 1 = ap verdict_code c.in-Confirmed.is in
    let e = c.verdict_of.ensures ∙ verdict_read c.args.vs.now (row_numbers c.args.x) h (c.requires h).1 in
    let u : c.verdict_of.result.at ≡ 68 * (get_or c.args.vs.now c.args.x.index 0 / 4) = ap (λ (z : VerdictNumbers). z.at) e ∙ rw (eq-eqb _ _ h) in
    (e, λ _. omega (arith, u, (c.requires h).2))

pub returns-in_default : goal.returns-in_default
returns-in_default c = (rw (ne_eqb _ _ (code_not Confirmed c.in_default.not-Confirmed)), λ e. absurd (code_not Confirmed c.in_default.not-Confirmed e))
