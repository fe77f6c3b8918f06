-- The exits of the exported calls that are not a number of another call's answer. Assumes nothing.
use Rattle.std.specs.Prelude.{◌≡◌, ℕ, Result, Ok, Err}
use Rattle.std.proofs.Common.{ap}
use Rattle.std.proofs.Math.Option.{none}
use Rattle.queue.specs.declared.refusal.Refusal.{Refusal}
use Rattle.queue.specs.Refusal.{number_told, size_told}
use Rattle.queue.specs.declared.Kind.TheVariants.{Nothing}
use Rattle.queue.specs.paper.Answer.{Refused, Done}
use Rattle.queue.specs.declared.check.area.Area.{Area}
use Rattle.queue.specs.Areas.{read_area}
use Rattle.queue.specs.check.AreaAs.{AreaIn}
use Rattle.queue.specs.paper.Records.{Bytes}
use Rattle.queue.specs.paper.Calls.{gives, sound_of}

pub sound_yes : {s : Bytes} {x : Area} → AreaIn s x → Done Nothing ≡ sound_of s
unfolding sound_of
sound_yes w = rw w.is

pub sound_no : (s : Bytes) → read_area s ≡ none → Refused 3 ≡ sound_of s
unfolding sound_of
sound_no s e = rw e

-- a length behind `size`, and what is left in `out`
pub sized : (a : Result ℕ Refusal) (out : Bytes) (old : ℕ) {r v : ℕ} → (r, v) ≡ gives (number_told a old) → (r, (out, v)) ≡ gives (size_told a out old)
sized (Ok n) out old e = ap (λ (p : ℕ × ℕ). (p.0, (out, p.1))) e
sized (Err x) out old e = ap (λ (p : ℕ × ℕ). (p.0, (out, p.1))) e
