-- The search for an id among lent ids that rise. Assumes nothing.
use Rattle.std.specs.Prelude.{◌≡◌, refl, true, false, List, [], ◌∷◌, ℕ, zero, suc, ◌+◌, ◌≤◌, ◌<◌, ltb, length, get_or}
use Rattle.std.proofs.Common.{ap, sym, ◌∙◌, arith, le_of_suc-le-suc, ltb-true, ltb-false, eqb-true, eq-eqb, ne_eqb}
use Rattle.queue.specs.Codec.{cases}
use Rattle.queue.specs.Lists.{and_true}
use Rattle.queue.specs.bytes.OrderLaws.{cmp_flip, below_trans}
use Rattle.queue.specs.paper.Records.{Id}
use Rattle.queue.specs.paper.Ids.{cmp_l, below?, same?, rise?}
use Rattle.queue.specs.paper.Sound.{among?}

-- ---- rising ids by place
first_below : (i : Id) (l : List Id) (j : ℕ) → rise? (i ∷ l) ≡ true → j < length l → below? i (get_or l j []) ≡ true
unfolding rise?
first_below i [] j r h = absurd (let y : ⊥ = omega arith in y)
first_below i (x ∷ l) zero r h = (and_true (below? i x) (rise? (x ∷ l)) r).0
first_below i (x ∷ l) (suc j) r h =
    let u = and_true (below? i x) (rise? (x ∷ l)) r in
    below_trans i x (get_or l j []) u.0 (first_below x l j u.1 (le_of_suc-le-suc h))

pub rest_rises : (i : Id) (l : List Id) → rise? (i ∷ l) ≡ true → rise? l ≡ true
unfolding rise?
rest_rises i [] r = refl
rest_rises i (x ∷ l) r = (and_true (below? i x) (rise? (x ∷ l)) r).1

pub rising_at : (l : List Id) (i j : ℕ) → rise? l ≡ true → i < j → j < length l → below? (get_or l i []) (get_or l j []) ≡ true
rising_at [] i j r p h = absurd (let y : ⊥ = omega arith in y)
rising_at (x ∷ l) i zero r p h = absurd (let y : ⊥ = omega arith in y)
rising_at (x ∷ l) zero (suc j) r p h = first_below x l j r (le_of_suc-le-suc h)
rising_at (x ∷ l) (suc i) (suc j) r p h = rising_at l i j (rest_rises x l r) (le_of_suc-le-suc p) (le_of_suc-le-suc h)

-- ---- among them
pub is_among : (z : Id) (l : List Id) (m : ℕ) → m < length l → cmp_l z (get_or l m []) ≡ 1 → true ≡ among? z l
is_among z [] m h e = absurd (let y : ⊥ = omega arith in y)
is_among z (i ∷ l) zero h e = rw (eq-eqb (cmp_l z i) 1 e)
is_among z (i ∷ l) (suc m) h e = cases (same? z i) (λ t. rw t) (λ t. rw t (is_among z l m (le_of_suc-le-suc h) e))

pub not_among : (z : Id) (l : List Id) → ((i : ℕ) → i < length l → cmp_l z (get_or l i []) ≡ 1 → ⊥) → false ≡ among? z l
not_among z [] f = refl
not_among z (x ∷ l) f = rw (ne_eqb (cmp_l z x) 1 (f 0 (omega arith))) (not_among z l (λ i h. f (suc i) (omega arith)))

-- ---- the loop: those before lo are lower than z, those from hi on are higher
pub record Finding (z : Id) (l : List Id) (lo hi : ℕ) : Type 0 where
  pub within : hi ≤ length l
  pub low : (i : ℕ) → i < lo → cmp_l z (get_or l i []) ≡ 2
  pub high : (i : ℕ) → hi ≤ i → i < length l → cmp_l z (get_or l i []) ≡ 0

pub finding : (z : Id) (l : List Id) (n : ℕ) → length l ≡ n → Finding z l 0 n
finding z l n e = record {
  within = omega arith;
  low = λ i h. absurd (let y : ⊥ = omega arith in y);
  high = λ i h k. absurd (let y : ⊥ = omega arith in y);
}

module _ {z : Id} {l : List Id} {lo hi : ℕ} (g : Finding z l lo hi) where
  pub find_end : hi ≤ lo → false ≡ among? z l
  find_end h = not_among z l λ i k e. cases (ltb i lo)
      (λ t. let u = g.low i (ltb-true i lo t) in omega arith)
      (λ t. let u = g.high i (let w = ltb-false i lo t in omega arith) k in omega arith)

  module _ (r : rise? l ≡ true) (m : ℕ) {y : Id} (q : y ≡ get_or l m []) (h : m < hi) where
    at_here : cmp_l z y ≡ 1 → true ≡ among? z l
    at_here e = is_among z l m (let w = g.within in omega arith) (ap (cmp_l z) (sym q) ∙ e)

    pub at_low : cmp_l z y ≡ 0 → Finding z l lo m
    at_low e = record {
      within = let w = g.within in omega arith;
      low = g.low;
      high = λ i k n. cases (ltb m i)
          (λ t. eqb_0 i (below_trans z (get_or l m []) (get_or l i []) (eq-eqb (cmp_l z (get_or l m [])) 0 here) (rising_at l m i r (ltb-true m i t) n)))
          (λ t. let w = ltb-false m i t in let x : i ≡ m = omega arith in rw x here);
    }
      where
        here : cmp_l z (get_or l m []) ≡ 0
        here = ap (cmp_l z) (sym q) ∙ e

        eqb_0 : (i : ℕ) → below? z (get_or l i []) ≡ true → cmp_l z (get_or l i []) ≡ 0
        eqb_0 i t = eqb-true (cmp_l z (get_or l i [])) 0 t

    pub at_high : (cmp_l z y ≡ 0 → ⊥) → (cmp_l z y ≡ 1 → ⊥) → Finding z l (m + 1) hi
    at_high a b = record {
      within = g.within;
      low = λ i k. cases (ltb i m)
          (λ t. above i (below_trans (get_or l i []) (get_or l m []) z (rising_at l i m r (ltb-true i m t) (let w = g.within in omega arith)) (eq-eqb (cmp_l (get_or l m []) z) 0 there)))
          (λ t. let w = ltb-false i m t in let x : i ≡ m = omega arith in rw x (let f = (cmp_flip z (get_or l m [])).0 in omega (arith, there)));
      high = g.high;
    }
      where
        there : cmp_l (get_or l m []) z ≡ 0
        there =
            let f = (cmp_flip z (get_or l m [])).0 in
            let e = ap (cmp_l z) q in
            two (cmp_l z (get_or l m [])) (cmp_l (get_or l m []) z) f (λ x. a (e ∙ x)) (λ x. b (e ∙ x))
          where
            two : (x y : ℕ) → x + y ≡ 2 → (x ≡ 0 → ⊥) → (x ≡ 1 → ⊥) → y ≡ 0
            two zero y f p q = absurd (p refl)
            two (suc zero) y f p q = absurd (q refl)
            two (suc (suc x)) y f p q = omega arith

        above : (i : ℕ) → below? (get_or l i []) z ≡ true → cmp_l z (get_or l i []) ≡ 2
        above i t = let f = (cmp_flip z (get_or l i [])).0 in let e = eqb-true (cmp_l (get_or l i []) z) 0 t in omega arith
