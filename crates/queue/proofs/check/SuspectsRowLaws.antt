-- The laws of the suspects' rows: their ids, their order, the sort's swaps, the bisection. Assumes nothing.
use Rattle.std.specs.Prelude.{◌≡◌, refl, Bool, true, false, not, ◌&&◌, ◌||◌, List, [], ◌∷◌, ℕ, zero, suc, ◌+◌, ◌-◌, ◌*◌, ◌/◌, ◌%◌, ◌≤◌, ◌<◌, ltb, leb, eqb, length, take, drop, get_or}
use Rattle.std.proofs.Common.{ap, subst, sym, ◌∙◌, arith, add-one, length-drop, drop_of_length-le, drop-drop, drop-cons, eqb-true, eq-eqb, ne_eqb, ltb-true, ltb-false, le-ltb, leb-true, le-leb}
use Rattle.std.proofs.Common.{sum_by, IsPermutation, leb-false, Bor, Ordering}
use Rattle.std.specs.Ordering.{is_lt, nat_cmp}
use Rattle.std.specs.Cmp.{IsStrictWeakOrder}
use Rattle.std.specs.Fn.{Mut, Called, ComparesAs}
use Rattle.std.specs.List.Sorted.{IsSortedBy, IsPartitionedBy, IsPartitionPoint}
use Rattle.std.proofs.lemmas.Fn.{always_returns_same}
use Rattle.std.proofs.lemmas.List.Sums.{sum_by-cons}
use Rattle.std.proofs.lemmas.List.Sorted.{sum_by-IsPermutation}
use Rattle.std.proofs.Math.Arith.{digits_div, digits_mod}
use Rattle.std.proofs.Math.Seq.{drop-nil}
use Rattle.std.proofs.lemmas.Bool.{eqb-false, lt-leb}
use Rattle.std.proofs.lemmas.List.{get_or_default}
use Rattle.queue.specs.Codec.{cases}
use Rattle.queue.specs.bytes.Parts.{part}
use Rattle.queue.specs.Lists.{and_true}
use Rattle.queue.proofs.bytes.ViewLaws.{first_less, first_more, id_whole}
use Rattle.queue.specs.bytes.OrderLaws.{cmp_self, cmp_flip, same_is, below_trans, or_true}
use Rattle.queue.specs.bytes.ReaderLaws.{be_at, false_true, SmallAt}
use Rattle.queue.specs.bytes.ViewAs.{view, pairs}
use Rattle.std.specs.Ordering.{is_eq}
use Rattle.std.specs.declared.cmp.Ordering.{Ordering}
use Rattle.queue.specs.bytes.OrderAs.{order_number, order_eq}
use Rattle.queue.specs.check.SuspectsAs.{id_r, no_r, up_to, later, Shuffled, InOrder, Cut}
use Rattle.queue.specs.paper.Records.{Bytes, Id}
use Rattle.queue.specs.paper.Ids.{cmp_l, same?}
use Rattle.queue.specs.paper.Lists.{any?, total}

-- ---- where an id stands
pairs_drop : (i : ℕ) (l : List ℕ) → pairs (drop (2 * i) l) ≡ drop i (pairs l)
unfolding pairs
pairs_drop zero l = refl
pairs_drop (suc i) [] = rw (drop-nil, drop-nil)
pairs_drop (suc i) (c ∷ []) = let e : 2 * suc i ≡ suc (suc (2 * i)) = omega arith in rw (e, drop-nil)
pairs_drop (suc i) (c ∷ d ∷ l) = let e : 2 * suc i ≡ suc (suc (2 * i)) = omega arith in rw e (pairs_drop i l)

pub place_hex : (hex : Bool) (s : Bytes) (base i : ℕ) → hex ≡ true → view hex s (base + 2 * i) ≡ drop i (view hex s base)
unfolding view
place_hex hex s base i e = rw e (ap pairs (sym (drop-drop (2 * i) base s)) ∙ pairs_drop i (drop base s))

pub place_raw : (hex : Bool) (s : Bytes) (base i : ℕ) → hex ≡ false → view hex s (base + i) ≡ drop i (view hex s base)
unfolding view
place_raw hex s base i e = rw e (sym (drop-drop i base s))

pub row_id : (hex : Bool) (s : Bytes) (base i p k : ℕ) → view hex s p ≡ drop i (view hex s base) → i + 32 ≤ length (view hex s base) → k < 4294967296 → id_r hex s (p * 4294967296 + k) ≡ part 32 (view hex s base) i
unfolding id_r part
row_id hex s base i p k e l h =
    let n : 32 ≤ length (drop i (view hex s base)) = omega (arith, length-drop i (view hex s base)) in
    rw (digits_div p h, e, le-leb 32 (length (drop i (view hex s base))) n)

pub row_no : (p : ℕ) {k : ℕ} → k < 4294967296 → no_r (p * 4294967296 + k) ≡ k
unfolding no_r
row_no p h = digits_mod p h

-- ---- the order of ids
module _ (hex : Bool) (s : Bytes) (x : ℕ) where
  pub id_short : length (view hex s (x / 4294967296)) < 32 → id_r hex s x ≡ []
  unfolding id_r
  id_short h = rw (lt-leb 32 _ h)

  pub id_long : 32 ≤ length (view hex s (x / 4294967296)) → id_r hex s x ≡ part 32 (view hex s (x / 4294967296)) 0
  unfolding id_r
  id_long h = rw (le-leb 32 _ h)

  -- read from where it stands
  module _ {a : List ℕ} (p : a ≡ view hex s (x / 4294967296)) (h : 32 ≤ length a) where
    id_there : id_r hex s x ≡ part 32 a 0
    id_there = id_long (let j = ap length p in omega arith) ∙ ap (λ (z : List ℕ). part 32 z 0) (sym p)

    pub id_read : {id : Id} → id ≡ part 32 a 0 → id_r hex s x ≡ id
    id_read q = id_there ∙ sym q

    pub cmp_by : {w id : Id} {c : ℕ} → w ≡ id → length id ≡ 32 → c ≡ cmp_l (part 32 a 0) (part 32 w 0) → c ≡ cmp_l (id_r hex s x) id
    cmp_by {w} {id} q n k =
        let e : part 32 w 0 ≡ id = ap (λ (z : List ℕ). part 32 z 0) q ∙ id_whole id n in
        k ∙ rw (id_there, e) refl

-- equal in the order, and as the paper counts it
pub same_row : (o : Ordering) {t : Bool} {c : ℕ} → t ≡ is_eq o → order_number o ≡ c → t ≡ eqb c 1
same_row o f e = f ∙ order_eq o ∙ ap (λ (n : ℕ). eqb n 1) e

long_some : (v : List ℕ) → 32 ≤ length v → (b : ℕ) × ((l : List ℕ) × (part 32 v 0 ≡ b ∷ l))
unfolding part
long_some [] h = absurd (let z : ⊥ = omega arith in z)
long_some (b ∷ v) h = (b, (take 31 v, refl))

module _ (hex : Bool) (s : Bytes) (x y : ℕ) {a b : ℕ} (p : a ≡ length (view hex s (x / 4294967296))) (q : b ≡ length (view hex s (y / 4294967296))) where
  pub cmp_none : a < 32 → b < 32 → 1 ≡ cmp_l (id_r hex s x) (id_r hex s y)
  unfolding cmp_l
  cmp_none h k = rw (id_short hex s x (omega arith), id_short hex s y (omega arith))

  pub cmp_first : a < 32 → 32 ≤ b → 0 ≡ cmp_l (id_r hex s x) (id_r hex s y)
  unfolding cmp_l
  cmp_first h k = let u = long_some (view hex s (y / 4294967296)) (omega arith) in rw (id_short hex s x (omega arith), id_long hex s y (omega arith), u.1.1)

  pub cmp_last : 32 ≤ a → b < 32 → 2 ≡ cmp_l (id_r hex s x) (id_r hex s y)
  unfolding cmp_l
  cmp_last h k = let u = long_some (view hex s (x / 4294967296)) (omega arith) in rw (id_short hex s y (omega arith), id_long hex s x (omega arith), u.1.1)

  pub cmp_both : {r : ℕ} → 32 ≤ a → 32 ≤ b → r ≡ cmp_l (part 32 (view hex s (x / 4294967296)) 0) (part 32 (view hex s (y / 4294967296)) 0) → r ≡ cmp_l (id_r hex s x) (id_r hex s y)
  cmp_both h k e = rw (id_long hex s x (omega arith), id_long hex s y (omega arith)) e

-- by their first words
module _ (hex : Bool) (s : Bytes) (x y : ℕ) {a b : List ℕ} (p : a ≡ view hex s (x / 4294967296)) (q : b ≡ view hex s (y / 4294967296)) (h : 32 ≤ length a) (k : 32 ≤ length b) where
  cmp_there : {c : ℕ} → c ≡ cmp_l (part 32 a 0) (part 32 b 0) → c ≡ cmp_l (id_r hex s x) (id_r hex s y)
  cmp_there {c} e = cmp_both hex s x y (ap length p) (ap length q) h k (subst (λ (z : List ℕ). c ≡ cmp_l (part 32 z 0) (part 32 (view hex s (y / 4294967296)) 0)) p (subst (λ (z : List ℕ). c ≡ cmp_l (part 32 a 0) (part 32 z 0)) q e))

  module _ (sa : SmallAt a) (sb : SmallAt b) {w n : ℕ} (f : w ≡ be_at 8 a 0) (g : n ≡ be_at 8 b 0) where
    pub cmp_less : w < n → 0 ≡ cmp_l (id_r hex s x) (id_r hex s y)
    cmp_less t = cmp_there (first_less a b 0 0 sa sb (omega arith) (omega arith) f g t)

    pub cmp_more : n < w → 2 ≡ cmp_l (id_r hex s x) (id_r hex s y)
    cmp_more t = cmp_there (first_more a b 0 0 sa sb (omega arith) (omega arith) f g t)

nothing_first : (l : Id) → length l ≡ 32 → cmp_l [] l ≡ 0
unfolding cmp_l
nothing_first [] h = absurd (let z : ⊥ = omega arith in z)
nothing_first (b ∷ l) h = refl

-- ---- the order of rows
module _ (hex : Bool) (s : Bytes) where
  pub up_by : {X : Type 0} (x y : ℕ) → up_to hex s x y ≡ true → (cmp_l (id_r hex s x) (id_r hex s y) ≡ 0 → X) → (id_r hex s x ≡ id_r hex s y → no_r x ≤ no_r y → X) → X
  unfolding up_to
  up_by x y h f g =
      let c = cmp_l (id_r hex s x) (id_r hex s y) in
      or_true (eqb c 0) (eqb c 1 && leb (no_r x) (no_r y)) h
      (λ t. f (eqb-true c 0 t))
      (λ _ t. let u = and_true (eqb c 1) (leb (no_r x) (no_r y)) t in g (same_is (id_r hex s x) (id_r hex s y) u.0) (leb-true (no_r x) (no_r y) u.1))

  up_lower : (x y : ℕ) → cmp_l (id_r hex s x) (id_r hex s y) ≡ 0 → up_to hex s x y ≡ true
  unfolding up_to
  up_lower x y h = rw h

  up_same : (x y : ℕ) → id_r hex s x ≡ id_r hex s y → no_r x ≤ no_r y → up_to hex s x y ≡ true
  unfolding up_to
  up_same x y e h = rw (e, cmp_self (id_r hex s y), le-leb (no_r x) (no_r y) h)

  -- by the first words of two ids
  module _ (x y : ℕ) {a : List ℕ} (p : a ≡ view hex s (x / 4294967296)) (k : 32 ≤ length (view hex s (y / 4294967296))) where
    pub up_none : length a < 32 → true ≡ up_to hex s x y
    up_none h = let j = ap length p in sym (up_lower x y (sym (cmp_first hex s x y refl refl (omega arith) k)))

    module _ {w n : ℕ} (h : 32 ≤ length a) (sa : SmallAt a) (sb : SmallAt (view hex s (y / 4294967296))) (f : w ≡ be_at 8 a 0) (g : n ≡ be_at 8 (view hex s (y / 4294967296)) 0) where
      pub up_first : w < n → true ≡ up_to hex s x y
      up_first t = sym (up_lower x y (sym (cmp_less hex s x y p refl h k sa sb f g t)))

      pub up_last : n < w → false ≡ up_to hex s x y
      unfolding up_to
      up_last t = let e = cmp_more hex s x y p refl h k sa sb f g t in rw (← e) refl

  -- by what is known of y's id
  module _ (x y : ℕ) {id : Id} (e : id_r hex s y ≡ id) where
    pub up_short : length (view hex s (x / 4294967296)) < 32 → length id ≡ 32 → true ≡ up_to hex s x y
    up_short h n = let z = nothing_first id n in sym (up_lower x y (rw (id_short hex s x h, e) z))

    pub up_at : {c : ℕ} → c ≡ cmp_l (id_r hex s x) id → eqb c 0 || (eqb c 1 && leb (x % 4294967296) (y % 4294967296)) ≡ up_to hex s x y
    unfolding up_to no_r
    up_at k = rw (k, e) refl

  up_self : (x : ℕ) → up_to hex s x x ≡ true
  up_self x = up_same x x refl (omega arith)

  pub lower_trans : (a b c : Id) → cmp_l a b ≡ 0 → cmp_l b c ≡ 0 → cmp_l a c ≡ 0
  lower_trans a b c h k = eqb-true (cmp_l a c) 0 (below_trans a b c (eq-eqb (cmp_l a b) 0 h) (eq-eqb (cmp_l b c) 0 k))

  up_trans : (x y z : ℕ) → up_to hex s x y ≡ true → up_to hex s y z ≡ true → up_to hex s x z ≡ true
  up_trans x y z h k = up_by x y h
      (λ p. up_by y z k (λ q. up_lower x z (lower_trans (id_r hex s x) (id_r hex s y) (id_r hex s z) p q)) (λ q _. up_lower x z (rw q at p)))
      (λ p m. up_by y z k (λ q. up_lower x z (rw p q)) (λ q n. up_same x z (p ∙ q) (omega arith)))

  -- a row of the same id behind y is one of a later record
  pub later_yes : (y x : ℕ) → up_to hex s x y ≡ false → cmp_l (id_r hex s y) (id_r hex s x) ≡ 1 → later hex s (id_r hex s y) (no_r y) x ≡ true
  unfolding later
  later_yes y x h e =
      let q = (cmp_flip (id_r hex s y) (id_r hex s x)).1 e in
      cases (ltb (no_r y) (no_r x))
      (λ t. rw (eq-eqb (cmp_l (id_r hex s y) (id_r hex s x)) 1 e, t))
      (λ t. let k = ltb-false (no_r y) (no_r x) t in false_true (sym h ∙ up_same x y (sym q) k))

  pub later_no : (y x : ℕ) → up_to hex s x y ≡ true → later hex s (id_r hex s y) (no_r y) x ≡ false
  unfolding later
  later_no y x h = cases (same? (id_r hex s y) (id_r hex s x))
      (λ t. rw t (up_by x y h
      (λ p. let e = same_is (id_r hex s y) (id_r hex s x) t in let z : cmp_l (id_r hex s x) (id_r hex s y) ≡ 1 = rw e (cmp_self (id_r hex s x)) in absurd (let o : ⊥ = omega arith in o))
      (λ _ k. le-ltb (no_r y) (no_r x) k)))
      (λ t. rw t)

  later_other : (y x : ℕ) → (cmp_l (id_r hex s y) (id_r hex s x) ≡ 1 → ⊥) → later hex s (id_r hex s y) (no_r y) x ≡ false
  unfolding later
  later_other y x h = rw (ne_eqb (cmp_l (id_r hex s y) (id_r hex s x)) 1 h)

  -- behind a row behind y of another id there is none of y's id
  pub later_behind : (y x w : ℕ) → up_to hex s x y ≡ false → (cmp_l (id_r hex s y) (id_r hex s x) ≡ 1 → ⊥) → up_to hex s x w ≡ true → later hex s (id_r hex s y) (no_r y) w ≡ false
  later_behind y x w h n k = later_other y w (λ e.
      let q = (cmp_flip (id_r hex s y) (id_r hex s w)).1 e in
      up_by x w k
      (λ p. let z = up_lower x y (rw q p) in false_true (sym h ∙ z))
      (λ p _. n (rw (q, p) (cmp_self (id_r hex s w)))))

-- ---- any and all, by places
module _ (p : ℕ → Bool) where
  pub any_none : (v : List ℕ) → ((i : ℕ) → i < length v → p (get_or v i 0) ≡ false) → any? p v ≡ false
  any_none [] k = refl
  any_none (x ∷ v) k = rw (k 0 (omega arith)) (any_none v (λ i h. k (suc i) (omega arith)))

  pub any_some : (v : List ℕ) (i : ℕ) → i < length v → p (get_or v i 0) ≡ true → any? p v ≡ true
  any_some [] i h e = absurd (let z : ⊥ = omega arith in z)
  any_some (x ∷ v) zero h e = rw e
  any_some (x ∷ v) (suc i) h e = cases (p x) (λ t. rw t) (λ t. rw t (any_some v i (omega arith) e))

  -- a walk from i on
  module _ (v : List ℕ) (i : ℕ) {r : Bool} (e : any? p (drop i v) ≡ r) where
    any_cut : i < length v → any? p (drop i v) ≡ (p (get_or v i 0) || any? p (drop (i + 1) v))
    any_cut h = rw (drop-cons v i 0 h, add-one)

    pub any_go : {b : Bool} → i < length v → b ≡ p (get_or v i 0) → b ≡ false → any? p (drop (i + 1) v) ≡ r
    any_go h q f = sym (any_cut h ∙ rw (sym q ∙ f)) ∙ e

    pub any_stop : {b : Bool} → i < length v → b ≡ p (get_or v i 0) → b ≡ true → true ≡ r
    any_stop h q f = sym (any_cut h ∙ rw (sym q ∙ f)) ∙ e

    pub any_end : length v ≤ i → false ≡ r
    any_end h = sym (ap (any? p) (drop_of_length-le v h)) ∙ e

-- ---- what the library's sort leaves
total_sum : (f : ℕ → ℕ) (v : List ℕ) → total f v ≡ sum_by f v
total_sum f [] = refl
total_sum f (x ∷ v) = ap (λ n. f x + n) (total_sum f v) ∙ sym (sum_by-cons f x v)

pub shuffled_by : {v w : List ℕ} → IsPermutation v w → Shuffled v w
shuffled_by {v} {w} p = record { same = λ f. total_sum f w ∙ sum_by-IsPermutation f v w p ∙ sym (total_sum f v) }

pub shuffled_self : (v : List ℕ) → Shuffled v v
shuffled_self v = record { same = λ f. refl }

-- ---- rows put in order
module _ (hex : Bool) (s : Bytes) where
  up_or : (x y : ℕ) → up_to hex s x y ≡ false → up_to hex s y x ≡ true
  up_or x y h = cases (ltb (cmp_l (id_r hex s y) (id_r hex s x)) 1)
      (λ t. let k = ltb-true (cmp_l (id_r hex s y) (id_r hex s x)) 1 t in up_lower hex s y x (omega arith))
      (λ t.
      let k = ltb-false (cmp_l (id_r hex s y) (id_r hex s x)) 1 t in
      let f = cmp_flip (id_r hex s x) (id_r hex s y) in
      cases (eqb (cmp_l (id_r hex s x) (id_r hex s y)) 0)
      (λ q. let e = eqb-true (cmp_l (id_r hex s x) (id_r hex s y)) 0 q in false_true (sym h ∙ up_lower hex s x y e))
      (λ q.
      let n = eqb-false (cmp_l (id_r hex s x) (id_r hex s y)) 0 q in
      let e = f.1 (let g = f.0 in omega arith) in
      cases (leb (no_r x) (no_r y))
      (λ w. false_true (sym h ∙ up_same hex s x y e (leb-true (no_r x) (no_r y) w)))
      (λ w. up_same hex s y x (sym e) (let g = leb-false (no_r x) (no_r y) w in omega arith))))

  module _ (x y : ℕ) {c : ℕ} (e : c ≡ cmp_l (id_r hex s x) (id_r hex s y)) where
    pub goes_lower : c ≡ 0 → true ≡ not (up_to hex s y x)
    unfolding up_to
    goes_lower h = let f = cmp_flip (id_r hex s x) (id_r hex s y) in let k : cmp_l (id_r hex s y) (id_r hex s x) ≡ 2 = let g = f.0 in omega arith in rw k refl

    pub goes_same : {r : Ordering} → c ≡ 1 → r ≡ nat_cmp (x % 4294967296) (y % 4294967296) → is_lt r ≡ not (up_to hex s y x)
    unfolding up_to no_r
    goes_same h g =
        let f = cmp_flip (id_r hex s x) (id_r hex s y) in
        let k : cmp_l (id_r hex s y) (id_r hex s x) ≡ 1 = let m = f.0 in omega arith in
        rw (g, k) (cases (ltb (x % 4294967296) (y % 4294967296))
        (λ t. let w = lt-leb (y % 4294967296) (x % 4294967296) (ltb-true (x % 4294967296) (y % 4294967296) t) in rw (t, w) refl)
        (λ t. let w = le-leb (y % 4294967296) (x % 4294967296) (ltb-false (x % 4294967296) (y % 4294967296) t) in rw (t, w) (cases (eqb (x % 4294967296) (y % 4294967296)) (λ q. rw q refl) (λ q. rw q refl))))

    pub goes_higher : (c ≡ 0 → ⊥) → (c ≡ 1 → ⊥) → false ≡ not (up_to hex s y x)
    goes_higher h k =
        let f = cmp_flip (id_r hex s x) (id_r hex s y) in
        let g : cmp_l (id_r hex s y) (id_r hex s x) ≡ 0 = let m = f.0 in omega (arith, h, k) in
        ap not (sym (up_lower hex s y x g))

  abbrev goes : ℕ → ℕ → Bool
  goes x y = not (up_to hex s y x)

  yes_from : (b : Bool) → not b ≡ false → b ≡ true
  yes_from true h = refl
  yes_from false h = sym h

  goes_ranks : IsStrictWeakOrder goes
  goes_ranks = record {
    one_way = λ x y h. cases (up_to hex s y x) (λ t. false_true (ap not (sym t) ∙ h)) (λ t. ap not (up_or y x t));
    chain = λ x y z h k. ap not (up_trans hex s z y x (yes_from _ k) (yes_from _ h));
  }

  pub sorted_rows : {F : Type 0} {g : Mut F (Bor ℕ × (Bor ℕ × Unit {0})) Ordering} {f : F} (v : List ℕ) → ((lt : ℕ → ℕ → Bool) → IsStrictWeakOrder lt → ComparesAs g lt f → IsSortedBy lt v) → ((a : Bor ℕ × (Bor ℕ × Unit {0})) (r : Ordering) (f' : F) → Called g f a r f' → (is_lt r ≡ not (up_to hex s a.1.0.now a.0.now)) × (f' ≡ f)) → InOrder hex s v
  sorted_rows {g = g} {f = f} v up h =
      let u = up goes goes_ranks (always_returns_same g (λ a r. is_lt r ≡ goes a.0.now a.1.0.now) f h) in
      record { next = λ i k. yes_from _ (u i 0 (omega arith) k) }

-- ---- rows in order
module _ (hex : Bool) (s : Bytes) (v : List ℕ) where
  apart_by : InOrder hex s v → (d i : ℕ) → i + d < length v → up_to hex s (get_or v i 0) (get_or v (i + d) 0) ≡ true
  apart_by o zero i h = let e : i + 0 ≡ i = omega arith in rw e (up_self hex s (get_or v i 0))
  apart_by o (suc d) i h =
      let e : i + suc d ≡ (i + d) + 1 = omega arith in
      rw e (up_trans hex s (get_or v i 0) (get_or v (i + d) 0) (get_or v (i + d + 1) 0) (apart_by o d i (omega arith)) (o.next (i + d) (omega arith)))

  pub rising : InOrder hex s v → (i j : ℕ) → i ≤ j → j < length v → up_to hex s (get_or v i 0) (get_or v j 0) ≡ true
  rising o i j h l = let e : i + (j - i) ≡ j = omega arith in rw e at (apart_by o (j - i) i (omega arith))

  -- those not behind y come before the others
  pub parted : InOrder hex s v → (y : ℕ) → IsPartitionedBy (λ x. up_to hex s x y) v
  parted o y i j d h l t =
      let a = get_or_default v i d 0 (omega arith) in
      let b = get_or_default v j d 0 l in
      rw a (up_trans hex s (get_or v i 0) (get_or v j 0) y (rising o i j h l) (rw b at t))

  pub cut_at : {y n : ℕ} → n ≤ length v → IsPartitionPoint (λ x. up_to hex s x y ≡ true) (λ x. up_to hex s x y ≡ false) v n → Cut hex s v y n n
  cut_at h p = record { up = omega arith; within = h; low = λ i k. p.0 i 0 (omega arith) k; high = λ i k l. p.1 i 0 k l }

  module _ {y b : ℕ} (ord : InOrder hex s v) (c : Cut hex s v y b b) where
    pub look_none : length v ≤ b → false ≡ any? (later hex s (id_r hex s y) (no_r y)) v
    look_none h = sym (any_none (later hex s (id_r hex s y) (no_r y)) v (λ i k. later_no hex s y (get_or v i 0) (c.low i (omega arith))))

    pub look_here : (o : Ordering) {t : Bool} → b < length v → t ≡ is_eq o → order_number o ≡ cmp_l (id_r hex s y) (id_r hex s (get_or v b 0)) → t ≡ any? (later hex s (id_r hex s y) (no_r y)) v
    look_here o h f e = same_row o f e ∙ cases (eqb (cmp_l (id_r hex s y) (id_r hex s (get_or v b 0))) 1)
        (λ t. t ∙ sym (any_some (later hex s (id_r hex s y) (no_r y)) v b h (later_yes hex s y (get_or v b 0) (c.high b (omega arith) h) (eqb-true (cmp_l (id_r hex s y) (id_r hex s (get_or v b 0))) 1 t))))
        (λ t. t ∙ sym (any_none (later hex s (id_r hex s y) (no_r y)) v (λ i k. cases (ltb i b)
        (λ u. later_no hex s y (get_or v i 0) (c.low i (ltb-true i b u)))
        (λ u. later_behind hex s y (get_or v b 0) (get_or v i 0) (c.high b (omega arith) h) (λ z. eqb-false (cmp_l (id_r hex s y) (id_r hex s (get_or v b 0))) 1 t z) (rising ord b i (ltb-false i b u) k)))))

-- ---- the pass that looks at neighbours
pub order_go : (hex : Bool) (s : Bytes) (v : List ℕ) {i : ℕ} {r : Bool} → ((j : ℕ) → j + 1 < i → j + 1 < length v → up_to hex s (get_or v j 0) (get_or v (j + 1) 0) ≡ true) → 0 < i → r ≡ up_to hex s (get_or v (i - 1) 0) (get_or v i 0) → r ≡ true
    → (j : ℕ) → j + 1 < i + 1 → j + 1 < length v → up_to hex s (get_or v j 0) (get_or v (j + 1) 0) ≡ true
order_go hex s v {i} {r} k p e t j h l = cases (ltb (j + 1) i)
    (λ u. k j (ltb-true (j + 1) i u) l)
    (λ u. let g = ltb-false (j + 1) i u in let q : j + 1 ≡ i = omega arith in let w : i - 1 ≡ j = omega arith in rw q (rw w at (sym e ∙ t)))
