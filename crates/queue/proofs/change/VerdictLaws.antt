-- The numbers of verdicts tell them apart. Assumes nothing.
use Rattle.std.specs.Prelude.{◌≡◌, refl, cond, ℕ, eqb}
use Rattle.std.proofs.Common.{ap, sym, ◌∙◌}
use Rattle.queue.specs.change.VerdictAs.{verdict_code}
use Rattle.queue.specs.declared.change.verdict.Verdict.{Verdict}
use Rattle.queue.specs.declared.change.verdict.Verdict.TheVariants.{Stays, Confirmed, Queued, Conflicted, Reopened, Cancelled, Expired, Forgotten}

abbrev verdict_at : ℕ → Verdict
verdict_at n = cond (eqb n 0) Stays (cond (eqb n 1) Confirmed (cond (eqb n 2) Queued (cond (eqb n 3) Conflicted (cond (eqb n 4) Reopened (cond (eqb n 5) Cancelled (cond (eqb n 6) Expired Forgotten))))))

back : (v : Verdict) → verdict_at (verdict_code v) ≡ v
back Stays = refl
back Confirmed = refl
back Queued = refl
back Conflicted = refl
back Reopened = refl
back Cancelled = refl
back Expired = refl
back Forgotten = refl

pub code_not : {v : Verdict} (w : Verdict) → (v ≡ w → ⊥) → verdict_code v ≡ verdict_code w → ⊥
code_not {v} w f e = f (sym (back v) ∙ ap verdict_at e ∙ back w)
