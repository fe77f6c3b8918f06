-- Ids as they stand in bytes, and what their order says. Assumes nothing.
use Rattle.std.specs.Prelude.{◌≡◌, refl, Bool, true, false, ℕ, ◌+◌, ◌≤◌, ◌<◌, eqb, length, get_or}
use Rattle.std.specs.Ordering.{is_lt, is_eq}
use Rattle.std.specs.declared.cmp.Ordering.{Ordering}
use Rattle.std.proofs.Common.{ap, sym, ◌∙◌, eqb-true, get_or-drop}
use Rattle.std.proofs.lemmas.Bool.{eqb-false}
use Rattle.queue.specs.bytes.Parts.{part}
use Rattle.queue.specs.bytes.ReaderAs.{Found}
use Rattle.queue.specs.bytes.ReaderLaws.{SmallAt}
use Rattle.queue.specs.bytes.ViewAs.{view}
use Rattle.queue.specs.layout.FrameCodec.{id_c}
use Rattle.queue.specs.paper.Records.{Bytes}
use Rattle.queue.proofs.bytes.ReadLaws.{id_is}
use Rattle.queue.specs.bytes.OrderAs.{order_number, order_eq, order_lt}

module _ (o : Ordering) {b : Bool} {c : ℕ} where
  module _ (e : b ≡ is_lt o) (f : order_number o ≡ c) where
    pub lower : b ≡ eqb c 0
    lower = e ∙ order_lt o ∙ ap (λ n. eqb n 0) f

    pub is_lower : b ≡ true → c ≡ 0
    is_lower t = eqb-true c 0 (sym lower ∙ t)

    pub not_lower : b ≡ false → c ≡ 0 → ⊥
    not_lower t = eqb-false c 0 (sym lower ∙ t)

  pub alike : b ≡ is_eq o → order_number o ≡ c → b ≡ eqb c 1
  alike e f = e ∙ order_eq o ∙ ap (λ n. eqb n 1) f

-- an id that stands in lent bytes
module _ (s : Bytes) (base : ℕ) (f : (j : ℕ) → get_or s j 0 < 256) where
  view_small : SmallAt (view false s base)
  unfolding view
  view_small j h = rw get_or-drop (f (base + j))

  pub id_stands : {i : ℕ} → i + 32 ≤ length (view false s base) → Found id_c (view false s base) i (i + 32) (λ a. a ≡ part 32 (view false s base) i)
  id_stands h = id_is (record { is = refl; within = h; small = view_small }) refl
