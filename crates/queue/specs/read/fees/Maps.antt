-- The same search over another list of the same sizes and fees, as places of lists or rows of a table.
use Rattle.std.specs.Prelude.{◌≡◌, refl, List, [], ◌∷◌, ◌++◌, ℕ, ◌+◌, ◌-◌, ◌<◌, ltb, leb}
use Rattle.std.proofs.Common.{ap, sym, ◌∙◌}
use Rattle.queue.specs.Codec.{cases, All}
use Rattle.queue.specs.paper.Lists.{map}
use Rattle.queue.specs.paper.Fees.{Best, best_fees_value}
use Rattle.queue.specs.read.fees.Walk.{SoFar, start, visit, pass, fitting, walk, told}
use Rattle.queue.specs.read.fees.Same.{same}

module _ {A B : Type 0} (g : B → A) where
  abbrev pub map_best : Best B → Best A
  map_best x = record { set = map g x.set; fee = x.fee; nodes = x.nodes; distance = x.distance }

  abbrev map_found : SoFar B → SoFar A
  map_found x = record { set = map g x.set; fee = x.fee; nodes = x.nodes; bound = x.bound }

  map_put : (s : List B) (b : B) → map g (s ++ (b ∷ [])) ≡ map g s ++ (g b ∷ [])
  map_put [] b = refl
  map_put (c ∷ s) b = ap (λ (l : List A). g c ∷ l) (map_put s b)

  map_visit : (s : List B) (f : ℕ) (x : SoFar B) → visit (map g s) f (map_found x) ≡ map_found (visit s f x)
  map_visit s f x = cases (ltb x.fee f) (λ t. rw t) (λ t. rw t)

  module _ (size fee : A → ℕ) (size' fee' : B → ℕ) where
    abbrev pub Like : B → Type 0
    Like b = (size (g b) ≡ size' b) × (fee (g b) ≡ fee' b)

    map_fitting : (left : ℕ) (l : List B) → All Like l → fitting size fee left (map g l) ≡ fitting size' fee' left l
    map_fitting left [] h = refl
    map_fitting left (b ∷ l) h = cases (leb (size' b) left)
        (λ t. rw (h.0.0, t, h.0.1) (ap (λ (n : ℕ). fee' b + n) (map_fitting left l h.1)))
        (λ t. rw (h.0.0, t) (map_fitting left l h.1))

    module _ (budget : ℕ) where
      map_walk : (l s : List B) (f left : ℕ) (x : SoFar B) → All Like l
          → walk size fee budget (map g l) (map g s) f left (map_found x) ≡ map_found (walk size' fee' budget l s f left x)
      map_walk [] s f left x h = cases (ltb x.nodes budget)
          (λ t. rw t (map_visit s f x))
          (λ t. rw t)
      map_walk (b ∷ l) s f left x h = cases (ltb x.nodes budget)
          (λ t. cases (leb (size' b) left)
          (λ u.
          let v = visit s f x in
          let y = walk size' fee' budget l (s ++ (b ∷ [])) (f + fee' b) (left - size' b) v in
          rw (t, h.0.0, u, h.0.1)
          (ap (walk size fee budget (map g l) (map g s) f left)
          (ap (walk size fee budget (map g l) (map g s ++ (g b ∷ [])) (f + fee' b) (left - size' b)) (map_visit s f x)
          ∙ ap (λ (q : List A). walk size fee budget (map g l) q (f + fee' b) (left - size' b) (map_found v)) (sym (map_put s b))
          ∙ map_walk l (s ++ (b ∷ [])) (f + fee' b) (left - size' b) v h.1)
          ∙ map_walk l s f left y h.1))
          (λ u. rw (t, h.0.0, u) (ap (walk size fee budget (map g l) (map g s) f left) (map_visit s f x) ∙ map_walk l s f left (visit s f x) h.1)))
          (λ t. rw t (ap (λ (n : ℕ). pass (f + n) (map_found x)) (map_fitting left (b ∷ l) h)))

      pub best_map : (l : List B) (limit : ℕ) → 0 < budget → All Like l → best_fees_value size fee (map g l) limit budget ≡ map_best (best_fees_value size' fee' l limit budget)
      best_map l limit p h =
          sym (same size fee budget (map g l) limit p)
          ∙ ap (told) (map_walk l [] 0 limit (start) h)
          ∙ ap map_best (same size' fee' budget l limit p)
