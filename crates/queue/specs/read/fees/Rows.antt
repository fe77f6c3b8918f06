-- What the call's answer says of the candidates themselves: places of lent columns stand for rows, and the set's number gives
-- the set back.
use Rattle.std.specs.Prelude.{◌≡◌, refl, List, [], ◌∷◌, ℕ, zero, suc, ◌+◌, ◌-◌, ◌*◌, ◌/◌, ◌%◌, ◌^◌, ◌≤◌, ◌<◌, length, get_or, drop}
use Rattle.std.proofs.Common.{ap, sym, ◌∙◌, arith, pow-suc, drop_of_length-le, drop-cons}
use Rattle.queue.specs.Codec.{All}
use Rattle.queue.specs.Lists.{Sub, done, keep, skip, sub_all}
use Rattle.queue.specs.paper.Lists.{map, total}
use Rattle.queue.specs.read.fees.Laws.{length_map}
use Rattle.queue.specs.paper.Fees.{best_fees_value}
use Rattle.queue.specs.read.fees.Claims.{set_sub}
use Rattle.queue.specs.read.fees.Maps.{map_best, Like, best_map}
use Rattle.queue.specs.read.fees.Masks.{places, item, mask, unmask}

-- ---- rows
module _ {A : Type 0} (d : A) where
  item_map : (f : A → ℕ) (c : List A) (p : ℕ) → p < length c → f (get_or c p d) ≡ item (map f c) p
  item_map f [] p h = absurd (omega arith)
  item_map f (a ∷ c) zero h = refl
  item_map f (a ∷ c) (suc p) h = item_map f c p (omega arith)

  -- the last k places give the last k rows
  rows_last : (c : List A) (k : ℕ) → k ≤ length c → map (λ p. get_or c p d) (places (length c) k) ≡ drop (length c - k) c
  rows_last c zero h = sym (drop_of_length-le c {i = length c - 0} (omega arith))
  rows_last c (suc k) h =
      let e : suc (length c - suc k) ≡ length c - k = omega arith in
      ap (λ (l : List A). get_or c (length c - suc k) d ∷ l) (rows_last c k (omega arith) ∙ ap (λ (n : ℕ). drop n c) (sym e))
      ∙ sym (drop-cons c (length c - suc k) d (omega arith))

  pub rows_all : (c : List A) → map (λ p. get_or c p d) (places (length c) (length c)) ≡ c
  rows_all c = rows_last c (length c) (omega arith) ∙ ap (λ (n : ℕ). drop n c) (let e : length c - length c ≡ 0 = omega arith in e)

  module _ (size fee : A → ℕ) where
    likes : (c : List A) (k : ℕ) → k ≤ length c → All (Like (λ p. get_or c p d) size fee (item (map size c)) (item (map fee c))) (places (length c) k)
    likes c zero h = tt
    likes c (suc k) h = ((item_map size c (length c - suc k) (omega arith), item_map fee c (length c - suc k) (omega arith)), likes c k (omega arith))

    -- the answer over a table's columns is the answer over its rows
    pub of_rows : (c : List A) (limit budget : ℕ) → 0 < budget
        → best_fees_value size fee c limit budget ≡ map_best (λ p. get_or c p d) (best_fees_value (item (map size c)) (item (map fee c)) (places (length (map size c)) (length (map size c))) limit budget)
    of_rows c limit budget h =
        ap (λ (l : List A). best_fees_value size fee l limit budget) (sym (rows_all c))
        ∙ best_map (λ p. get_or c p d) size fee (item (map size c)) (item (map fee c)) budget (places (length c) (length c)) limit h (likes c (length c) (omega arith))
        ∙ ap (λ (n : ℕ). map_best (λ p. get_or c p d) (best_fees_value (item (map size c)) (item (map fee c)) (places n n) limit budget)) (sym (length_map size c))

-- ---- the number of a set
-- as seen from place p on
abbrev from : ℕ → List ℕ → ℕ
from p s = total (λ q. 2 ^ (q - p)) s

places_above : (n k p : ℕ) → p < n - k → All (λ q. p < q) (places n k)
places_above n zero p h = tt
places_above n (suc k) p h = (h, places_above n k p (omega arith))

from_next : (p : ℕ) (s : List ℕ) → All (λ q. p < q) s → from p s ≡ 2 * from (suc p) s
from_next p [] h = refl
from_next p (q ∷ s) h =
    let i = from_next p s h.1 in
    let g = h.0 in
    let e : q - p ≡ suc (q - suc p) = omega arith in
    let j = pow-suc 2 (q - suc p) in
    rw e (omega arith)

unmask_odd : (k p r : ℕ) → unmask (suc k) p (1 + 2 * r) ≡ p ∷ unmask k (suc p) r
unmask_odd k p r =
    let e : (1 + 2 * r) % 2 ≡ 1 = omega arith in
    let h : (1 + 2 * r) / 2 ≡ r = omega arith in
    rw (e, h)

unmask_even : (k p r : ℕ) → unmask (suc k) p (2 * r) ≡ unmask k (suc p) r
unmask_even k p r =
    let e : 2 * r % 2 ≡ 0 = omega arith in
    let h : 2 * r / 2 ≡ r = omega arith in
    rw (e, h)

unmask_from : (n k : ℕ) {s : List ℕ} → k ≤ n → Sub s (places n k) → unmask k (n - k) (from (n - k) s) ≡ s
unmask_from n zero h done = refl
unmask_from n (suc k) h (keep q {s = s} u) =
    let p = n - suc k in
    let e : suc p ≡ n - k = omega arith in
    let z : p - p ≡ 0 = omega arith in
    let i = from_next p s (sub_all (λ q. p < q) u (places_above n k p (omega arith))) in
    let m : from p (p ∷ s) ≡ 1 + 2 * from (suc p) s = rw z (omega arith) in
    ap (unmask (suc k) p) m ∙ unmask_odd k p (from (suc p) s) ∙ ap (λ (l : List ℕ). p ∷ l) (ap (λ (x : ℕ). unmask k x (from x s)) e ∙ unmask_from n k (omega arith) u)
unmask_from n (suc k) {s} h (skip q u) =
    let p = n - suc k in
    let e : suc p ≡ n - k = omega arith in
    let i = from_next p s (sub_all (λ q. p < q) u (places_above n k p (omega arith))) in
    ap (unmask (suc k) p) i ∙ unmask_even k p (from (suc p) s) ∙ ap (λ (x : ℕ). unmask k x (from x s)) e ∙ unmask_from n k (omega arith) u

from_none : (s : List ℕ) → from 0 s ≡ mask s
from_none [] = refl
from_none (q ∷ s) = rw (let e : q - 0 ≡ q = omega arith in e) (ap (λ (m : ℕ). 2 ^ q + m) (from_none s))

-- the bits of the answer's number are the places of the answer's set
pub unmask_set : (sizes fees : List ℕ) (limit budget : ℕ)
    → let n = length sizes in unmask n 0 (mask (best_fees_value (item sizes) (item fees) (places n n) limit budget).set) ≡ (best_fees_value (item sizes) (item fees) (places n n) limit budget).set
unmask_set sizes fees limit budget =
    let n = length sizes in
    let z : 0 ≡ n - n = omega arith in
    let s = (best_fees_value (item sizes) (item fees) (places n n) limit budget).set in
    ap (unmask n 0) (sym (from_none s)) ∙ ap (λ (x : ℕ). unmask n x (from x s)) z ∙ unmask_from n n (omega arith) (set_sub (item sizes) (item fees) (places n n) limit budget)
