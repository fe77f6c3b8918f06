-- The walk over masks is the walk over lists of places; the number of a set gives the set back. Assumes nothing.
use Rattle.std.specs.Prelude.{◌≡◌, refl, true, false, List, [], ◌∷◌, ◌++◌, ℕ, zero, suc, ◌+◌, ◌-◌, ◌^◌, ◌≤◌, ◌<◌, ltb, leb, length}
use Rattle.std.proofs.Common.{ap, sym, ◌∙◌, arith, add-one, lt-ltb, le-ltb}
use Rattle.queue.specs.Codec.{cases}
use Rattle.queue.specs.paper.Lists.{total}
use Rattle.queue.specs.paper.Fees.{Best, best_fees_value}
use Rattle.queue.specs.read.fees.Walk as plain
use Rattle.queue.specs.read.fees.Same.{same}
use Rattle.queue.specs.declared.read.fees.SoFar.{SoFar}
use Rattle.queue.specs.declared.read.fees.Choice.{Choice}
use Rattle.queue.specs.read.fees.Masks.{places, item, visit_m, pass_m, walk_m, Shape, mask, said}
use Rattle.queue.proofs.read.FeesWalkLaws.{places_next}

abbrev masked : plain.SoFar ℕ → SoFar
masked x = record { set = mask x.set; fee = x.fee; nodes = x.nodes; bound = x.bound }

mask_put : (s : List ℕ) (p : ℕ) → mask (s ++ (p ∷ [])) ≡ mask s + 2 ^ p
mask_put [] p = omega arith
mask_put (q ∷ s) p = let i = mask_put s p in omega arith

masked_visit : (s : List ℕ) (f : ℕ) (x : plain.SoFar ℕ) → visit_m (mask s) f (masked x) ≡ masked (plain.visit s f x)
unfolding visit_m
masked_visit s f x = cases (ltb x.fee f)
    (λ t. rw (t, add-one x.nodes))
    (λ t. rw (t, add-one x.nodes))

masked_pass : (b : ℕ) (x : plain.SoFar ℕ) → pass_m b (masked x) ≡ masked (plain.pass b x)
unfolding pass_m
masked_pass b x = refl

module _ (size fee : ℕ → ℕ) (budget : ℕ) where
  masked_walk : (l s : List ℕ) (f left : ℕ) (x : plain.SoFar ℕ) → walk_m size fee budget l (mask s) f left (masked x) ≡ masked (plain.walk size fee budget l s f left x)
  unfolding walk_m
  masked_walk [] s f left x = cases (ltb x.nodes budget)
      (λ t. rw t (masked_visit s f x))
      (λ t. rw t (masked_pass (f + plain.fitting size fee left []) x))
  masked_walk (p ∷ l) s f left x = cases (ltb x.nodes budget)
      (λ t. cases (leb (size p) left)
      (λ u.
      let v = plain.visit s f x in
      let y = plain.walk size fee budget l (s ++ (p ∷ [])) (f + fee p) (left - size p) v in
      rw (t, u) (ap (walk_m size fee budget l (mask s) f left)
      (ap (walk_m size fee budget l (mask s + 2 ^ p) (f + fee p) (left - size p)) (masked_visit s f x)
      ∙ ap (λ (m : ℕ). walk_m size fee budget l m (f + fee p) (left - size p) (masked v)) (sym (mask_put s p))
      ∙ masked_walk l (s ++ (p ∷ [])) (f + fee p) (left - size p) v)
      ∙ masked_walk l s f left y))
      (λ u. rw (t, u) (ap (walk_m size fee budget l (mask s) f left) (masked_visit s f x) ∙ masked_walk l s f left (plain.visit s f x))))
      (λ t. rw t (masked_pass (f + plain.fitting size fee left (p ∷ l)) x))

-- ---- the search from the root
pub shape_start : (sizes fees : List ℕ) → length sizes ≡ length fees → length sizes ≤ 20 → total (item fees) (places (length sizes) (length sizes)) < 2 ^ 64
    → Shape sizes fees (length sizes) 1 0 0
shape_start sizes fees e f s = record {
  even = e;
  few = f;
  has = omega arith;
  next = rw (let z : length sizes - length sizes ≡ 0 = omega arith in z);
  low = omega arith;
  sum = omega arith;
}

module _ (sizes fees : List ℕ) (limit budget : ℕ) where
  abbrev answered : Best ℕ
  answered = best_fees_value (item sizes) (item fees) (places (length sizes) (length sizes)) limit budget

  abbrev none : SoFar
  none = record { set = 0; fee = 0; nodes = 0; bound = 0 }

  found_said : (x : SoFar) → 0 < budget → x ≡ walk_m (item sizes) (item fees) budget (places (length sizes) (length sizes)) 0 0 limit none
      → ◌≡◌ {A = Choice} (record { set = x.set; fee = x.fee; nodes = x.nodes; distance = x.bound - x.fee }) (said answered)
  unfolding said
  found_said x h e =
      ap {B = Choice} (λ (w : SoFar). record { set = w.set; fee = w.fee; nodes = w.nodes; distance = w.bound - w.fee })
      (e ∙ masked_walk (item sizes) (item fees) budget (places (length sizes) (length sizes)) [] 0 limit plain.start)
      ∙ ap said (same (item sizes) (item fees) budget (places (length sizes) (length sizes)) limit h)

  pub told_none : {x : SoFar} → 0 < budget → x ≡ walk_m (item sizes) (item fees) budget (places (length sizes) (length sizes)) 0 0 limit none → x.bound ≤ x.fee
      → ◌≡◌ {A = Choice} (record { set = x.set; fee = x.fee; nodes = x.nodes; distance = 0 }) (said answered)
  told_none {x} h e b =
      ap {B = Choice} (λ (d : ℕ). record { set = x.set; fee = x.fee; nodes = x.nodes; distance = d }) (let z : 0 ≡ x.bound - x.fee = omega arith in z) ∙ found_said x h e

  pub told_some : {x : SoFar} → 0 < budget → x ≡ walk_m (item sizes) (item fees) budget (places (length sizes) (length sizes)) 0 0 limit none
      → ◌≡◌ {A = Choice} (record { set = x.set; fee = x.fee; nodes = x.nodes; distance = x.bound - x.fee }) (said answered)
  told_some {x} h e = found_said x h e

-- ---- the room for the sum, counted down
pub record Room (fees : List ℕ) (room j : ℕ) : Type 0 where
  pub has : j ≤ length fees
  pub is : total (item fees) (places (length fees) (length fees)) + room ≡ 18446744073709551615 + total (item fees) (places (length fees) j)

module _ (fees : List ℕ) where
  pub room_start : Room fees 18446744073709551615 (length fees)
  room_start = record { has = omega arith; is = omega arith }

  next : (j : ℕ) → 0 < j → total (item fees) (places (length fees) j) ≡ item fees (length fees - j) + total (item fees) (places (length fees) (j - 1))
  next j h = rw (places_next (length fees) j h)

  pub room_turn : (room j : ℕ) → 0 < j → item fees (length fees - j) ≤ room → Room fees room j → Room fees (room - item fees (length fees - j)) (j - 1)
  room_turn room j h f r = record { has = let a = r.has in omega arith; is = let a = r.is in let b = next j h in omega arith }

  pub room_out : (room j : ℕ) → 0 < j → room < item fees (length fees - j) → Room fees room j → false ≡ ltb (total (item fees) (places (length fees) (length fees))) (2 ^ 64)
  room_out room j h f r = sym (le-ltb (total (item fees) (places (length fees) (length fees))) (2 ^ 64) (let a = r.is in let b = next j h in omega arith))

  pub room_end : (room j : ℕ) → j ≤ 0 → Room fees room j → true ≡ ltb (total (item fees) (places (length fees) (length fees))) (2 ^ 64)
  room_end room zero h r = sym (lt-ltb (total (item fees) (places (length fees) (length fees))) (2 ^ 64) (let a = r.is in omega arith))
  room_end room (suc j) h r = absurd (omega arith)
