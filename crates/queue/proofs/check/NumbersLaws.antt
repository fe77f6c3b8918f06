-- The laws of a table of finish numbers: counting in it, equal neighbours, the search for the floor. Assumes nothing.
use Rattle.std.specs.Prelude.{◌≡◌, refl, Bool, true, false, ◌⊎◌, List, [], ◌∷◌, ◌++◌, ℕ, zero, suc, ◌+◌, ◌-◌, ◌≤◌, ◌<◌, ltb, leb, eqb, length, take, drop, get_or, set}
use Rattle.std.proofs.Common.{ap, sym, ◌∙◌, inl, inr, append_assoc, append-nil, arith, add-one, length-append, drop_of_length-le, drop-cons, take-suc-set, length-take-le, eqb-true, eq-eqb, ltb-true, ltb-false, lt-ltb, le-ltb, leb-true, leb-false}
use Rattle.std.specs.Int.{from_bool}
use Rattle.std.specs.Ordering.{is_lt, nat_cmp}
use Rattle.queue.specs.Basics.{one_of}
use Rattle.queue.specs.Codec.{cases, All}
use Rattle.queue.specs.layout.FormsCodec.{rec_in_value, after_in_value}
use Rattle.queue.specs.bytes.ReaderAs.{list_at}
use Rattle.queue.specs.bytes.ReaderLaws.{false_true}
use Rattle.queue.specs.layout.FrameAs.{facts_of}
use Rattle.queue.specs.check.RulesAs.{weight, sum, above_f}
use Rattle.queue.specs.check.FilterAs.{marked, mark_l}
use Rattle.queue.specs.check.NumbersAs.{number_f, numbers_of, times_in, over_in, Ordered, Differ, new_above_value, above}
use Rattle.queue.specs.check.SuspectsAs.{Shuffled}
use Rattle.queue.specs.paper.Records.{Bytes, Rec}
use Rattle.queue.specs.paper.Lists.{one, count}
use Rattle.queue.specs.paper.Sound.{holder?, tombstones, stamped?, distinct?}
use Rattle.queue.specs.declared.layout.frame.Facts.{Facts}
use Rattle.queue.specs.declared.layout.frame.Form.{Form}
use Rattle.queue.specs.declared.layout.frame.Seen.{Seen}
use Rattle.queue.specs.declared.check.rules.Query.TheVariants.{Tombstones}
use Rattle.queue.proofs.layout.TurnLaws.{Scan, on, end, FoundForm, seen_in, see_in}
use Rattle.queue.proofs.check.FilterLaws.{mark_here, mark_old, distinct_yes, distinct_no}

-- ---- what the numbers say of the records
pub numbers_long : (l : List Rec) → length (numbers_of l) ≡ tombstones l
unfolding numbers_of
numbers_long [] = refl
numbers_long (r ∷ l) = let i = numbers_long l in cases (holder? r) (λ t. rw t (omega arith)) (λ t. rw t (omega arith))

numbers_times : (m : ℕ) (l : List Rec) → count (stamped? m) l ≡ times_in m (numbers_of l)
unfolding numbers_of
numbers_times m [] = refl
numbers_times m (r ∷ l) = let i = numbers_times m l in cases (holder? r) (λ t. rw t (omega arith)) (λ t. rw t (omega arith))

numbers_over : (x : ℕ) (l : List Rec) → count (λ r. above_f x (facts_of r)) l ≡ over_in x (numbers_of l)
unfolding numbers_of above_f facts_of
numbers_over x [] = refl
numbers_over x (r ∷ l) = let i = numbers_over x l in cases (holder? r) (λ t. rw t (omega arith)) (λ t. rw t (omega arith))

numbers_all : (k : ℕ) (l : List Rec) → All (λ r. holder? r ≡ false → r.finish ≤ k) l → All (λ y. y ≤ k) (numbers_of l)
unfolding numbers_of
numbers_all k [] h = tt
numbers_all k (r ∷ l) h = let i = numbers_all k l h.1 in cases (holder? r) (λ t. rw t i) (λ t. rw t (h.0 t, i))

pub distinct_is : {b : Bool} (l : List Rec) → Differ (numbers_of l) b → b ≡ distinct? l
distinct_is {b = true} l d = distinct_yes l (λ m. rw (numbers_times m l) (d.yes refl m))
distinct_is {b = false} l d = let u = d.no refl in distinct_no l u.0 (rw (numbers_times u.0 l) u.1)

times_few : (m : ℕ) (v : List ℕ) → times_in m v ≤ length v
times_few m [] = omega arith
times_few m (x ∷ v) = let i = times_few m v in cases (eqb x m) (λ t. rw t (omega arith)) (λ t. rw t (omega arith))

pub distinct_none : {m : ℕ} (l : List Rec) → tombstones l ≡ m → m ≡ 0 → true ≡ distinct? l
distinct_none l e z = distinct_is l (record { yes = λ _ m. let a = times_few m (numbers_of l) in let b = numbers_long l in omega arith; no = λ f. false_true (sym f) })

-- ---- the table filled
pub add_more : (f : Facts) (v : List ℕ) (k : ℕ) → f.holder ≡ true → take k v ≡ take k v ++ number_f f
add_more f v k e = rw e (sym (append-nil (take k v)))

pub add_new : (f : Facts) (v : List ℕ) (k : ℕ) → f.holder ≡ false → k < length v → take (k + 1) (set v k f.finish.0) ≡ take k v ++ number_f f
add_new f v k e h = rw (e, add-one) (take-suc-set v k f.finish.0 h)

unfoldable pub numbers_from : List ℕ → List Rec → List ℕ
numbers_from z l = z ++ numbers_of l

module _ (form : Form) {s : Bytes} {n at i left : ℕ} {z : List ℕ} (x : Scan (rec_in_value form) numbers_from s n at [] i left z) where
  module _ {m : ℕ} {y : Seen} (p : 0 < left) (r : FoundForm form s i m y) where
    pub gather_go : {j : ℕ} {z' : List ℕ} → j ≡ after_in_value form.hex s i m → z' ≡ z ++ number_f y.facts → Scan (rec_in_value form) numbers_from s n at [] j (left - 1) z'
    unfolding numbers_from numbers_of facts_of
    gather_go {j} {z'} g e =
        let t = see_in form x p r g in
        let f : z' ≡ z ++ number_f (facts_of t.item) = e ∙ ap (λ (u : Facts). z ++ number_f u) t.is.0.facts in
        let rest = numbers_of (list_at (rec_in_value form) (left - 1) s j) in
        on x z' p t (sym (append_assoc z (number_f (facts_of t.item)) rest) ∙ ap (λ (w : List ℕ). w ++ rest) (sym f))

    -- there is room for a tombstone's number
    pub gather_room : {c : ℕ} → tombstones (list_at (rec_in_value form) n s at) ≤ c → y.facts.holder ≡ false → length z < c
    unfolding numbers_from numbers_of facts_of
    gather_room h e =
        let t = seen_in form x p r in
        let f : holder? t.item ≡ false = ap (λ (u : Facts). u.holder) (sym t.is.0.facts) ∙ e in
        let u = numbers_long (list_at (rec_in_value form) n s at) in
        let v = ap length x.same ∙ u in
        let w = length-append z (numbers_of (list_at (rec_in_value form) left s i)) in
        let a : 0 < length (numbers_of (list_at (rec_in_value form) left s i)) = rw (t.list, f) (omega arith) in
        omega arith

  pub gather_end : left ≡ 0 → z ≡ numbers_of (list_at (rec_in_value form) n s at)
  unfolding numbers_from numbers_of
  gather_end e = sym (append-nil z) ∙ end x e

-- the part of the table that is filled
pub filled_long : {k c : ℕ} (v : List ℕ) → k ≤ length v → length (take k v) < c → k < c
filled_long {k} v h l = let e = length-take-le k v h in omega arith

pub filled_count : {k : ℕ} (v : List ℕ) (l : List Rec) → k ≤ length v → take k v ≡ numbers_of l → k ≡ tombstones l
filled_count {k} v l h e = sym (length-take-le k v h) ∙ ap length e ∙ numbers_long l

-- ---- counting in a table
module _ (p : ℕ → Bool) (v : List ℕ) where
  pub count_go : (i c : ℕ) {w : ℕ} {b : Bool} → i < length v → c + count p (drop i v) ≡ count p v → b ≡ p (get_or v i 0) → w ≡ from_bool b → c + w + count p (drop (i + 1) v) ≡ count p v
  count_go i c {w} {b} h e f g =
      let k : count p (drop i v) ≡ one (p (get_or v i 0)) + count p (drop (i + 1) v) = rw (drop-cons v i 0 h, add-one) in
      let z : w ≡ one (p (get_or v i 0)) = g ∙ one_of b ∙ ap one f in
      omega arith

  pub count_end : (i c : ℕ) → length v ≤ i → c + count p (drop i v) ≡ count p v → c ≡ count p v
  count_end i c h e = let k : count p (drop i v) ≡ 0 = ap (count p) (drop_of_length-le v h) in omega arith

-- ---- equal numbers
pair_times : (v : List ℕ) (j : ℕ) → j + 1 < length v → get_or v j 0 ≡ get_or v (j + 1) 0 → 2 ≤ times_in (get_or v j 0) v
pair_times [] j h e = absurd (let z : ⊥ = omega arith in z)
pair_times (x ∷ []) j h e = absurd (let z : ⊥ = omega arith in z)
pair_times (x ∷ y ∷ v) zero h e = rw (eq-eqb x x refl, eq-eqb y x (sym e)) (omega arith)
pair_times (x ∷ y ∷ v) (suc j) h e =
    let q : suc j + 1 ≡ suc (j + 1) = omega arith in
    let i = pair_times (y ∷ v) j (omega arith) (rw q at e) in
    omega arith

abbrev Rises : List ℕ → Type 0
Rises v = (j : ℕ) → j + 1 < length v → get_or v j 0 < get_or v (j + 1) 0

rises_rest : (x : ℕ) (v : List ℕ) → Rises (x ∷ v) → Rises v
rises_rest x v k j h = let e : suc j + 1 ≡ suc (j + 1) = omega arith in rw e at (k (suc j) (omega arith))

below_none : (m : ℕ) (v : List ℕ) → Rises v → (0 < length v → m < get_or v 0 0) → times_in m v ≡ 0
below_none m [] k h = refl
below_none m (x ∷ v) k h =
    let a : m < x = h (omega arith) in
    let i = below_none m v (rises_rest x v k) (λ g. let b : x < get_or v 0 0 = k 0 (omega arith) in omega arith) in
    rw (ne_eqb x m (λ e. let z : ⊥ = omega arith in z)) (omega arith)
  where
    ne_eqb : (a b : ℕ) → (a ≡ b → ⊥) → eqb a b ≡ false
    ne_eqb a b n = cases (eqb a b) (λ t. absurd (n (eqb-true a b t))) (λ t. t)

rises_one : (v : List ℕ) → Rises v → (m : ℕ) → times_in m v ≤ 1
rises_one [] k m = omega arith
rises_one (x ∷ v) k m = cases (eqb x m)
    (λ t. let e = eqb-true x m t in let i = below_none m v (rises_rest x v k) (λ g. let b : x < get_or v 0 0 = k 0 (omega arith) in omega arith) in rw t (omega arith))
    (λ t. let i = rises_one v (rises_rest x v k) m in rw t (omega arith))

below_cmp : (a b : ℕ) → is_lt (nat_cmp a b) ≡ false → b ≤ a
below_cmp a b h = cases (ltb a b) (λ t. false_true (sym (rw t at h))) (λ t. ltb-false a b t)

-- what the library's sort ensures
pub sorted_ordered : (v : List ℕ) → ((k d : ℕ) → 0 ≤ k → k + 1 < length v → is_lt (nat_cmp (get_or v (k + 1) d) (get_or v k d)) ≡ false) → Ordered v
sorted_ordered v h i k = below_cmp (get_or v (i + 1) 0) (get_or v i 0) (h i 0 (omega arith) k)

pub ordered_at : (v : List ℕ) {i : ℕ} → Ordered v → 0 < i → i < length v → get_or v (i - 1) 0 ≤ get_or v i 0
ordered_at v {i} o p h = let q : i - 1 + 1 ≡ i = omega arith in rw q at (o (i - 1) (omega arith))

pub steps_go : (v : List ℕ) {i : ℕ} → ((j : ℕ) → j + 1 < i → get_or v j 0 < get_or v (j + 1) 0) → 0 < i → (get_or v (i - 1) 0 ≡ get_or v i 0 → ⊥) → get_or v (i - 1) 0 ≤ get_or v i 0 → (j : ℕ) → j + 1 < i + 1 → get_or v j 0 < get_or v (j + 1) 0
steps_go v {i} k p n l j h = cases (ltb (j + 1) i)
    (λ u. k j (ltb-true (j + 1) i u))
    (λ u. let g = ltb-false (j + 1) i u in let q : j + 1 ≡ i = omega arith in let w : i - 1 ≡ j = omega arith in
    let b : get_or v j 0 ≤ get_or v i 0 = rw w at l in let d : get_or v j 0 ≡ get_or v i 0 → ⊥ = rw w at n in rw q (apart (get_or v j 0) (get_or v i 0) b d))
  where
    apart : (a b : ℕ) → a ≤ b → (a ≡ b → ⊥) → a < b
    apart a b h n = cases (ltb a b) (λ t. ltb-true a b t) (λ t. let g = ltb-false a b t in absurd (n (omega arith)))

pub steps_same : (v : List ℕ) {i : ℕ} → 0 < i → i < length v → get_or v (i - 1) 0 ≡ get_or v i 0 → Differ v false
steps_same v {i} p h e =
    let q : i - 1 + 1 ≡ i = omega arith in
    record { yes = λ f. false_true f; no = λ _. (get_or v (i - 1) 0, pair_times v (i - 1) (omega arith) (rw q e)) }

pub steps_up : (v : List ℕ) {i : ℕ} → ((j : ℕ) → j + 1 < i → get_or v j 0 < get_or v (j + 1) 0) → length v ≤ i → Differ v true
steps_up v k h = record { yes = λ _. rises_one v (λ j l. k j (omega arith)); no = λ f. false_true (sym f) }

-- ---- new to a filter: those before i are marked
pub record Fresh (v t : List ℕ) (i : ℕ) : Type 0 where
  pub met : (m : ℕ) → times_in m (drop i v) < times_in m v → marked t m ≡ true
  pub few : (m : ℕ) → times_in m v ≤ 1 + times_in m (drop i v)

pub fresh_start : (v t : List ℕ) → Fresh v t 0
fresh_start v t = record { met = λ m h. absurd (let z : ⊥ = omega arith in z); few = λ m. omega arith }

pub fresh_go : (v t : List ℕ) (i : ℕ) {b : Bool} {t' : List ℕ} → Fresh v t i → i < length v → 0 < length t → b ≡ marked t (get_or v i 0) → b ≡ false → t' ≡ mark_l t (get_or v i 0) → Fresh v t' (i + 1)
fresh_go v t i {b} {t'} f h p e n g =
    let x = get_or v i 0 in
    let cut : (m : ℕ) → times_in m (drop i v) ≡ one (eqb x m) + times_in m (drop (i + 1) v) = λ m. rw (drop-cons v i 0 h, add-one) in
    rw g (record {
      met = λ m l. let k = cut m in cases (eqb x m)
          (λ u. ap (marked (mark_l t x)) (sym (eqb-true x m u)) ∙ mark_here t x p)
          (λ u. let z = rw u at k in mark_old t x p m (f.met m (omega arith)));
      few = λ m. let k = cut m in cases (eqb x m)
          (λ u.
          let z = rw u at k in
          let q : x ≡ m = eqb-true x m u in
          cases (ltb (times_in m (drop i v)) (times_in m v))
          (λ w. false_true (sym (rw q at (sym e ∙ n)) ∙ f.met m (ltb-true (times_in m (drop i v)) (times_in m v) w)))
          (λ w. let y = ltb-false (times_in m (drop i v)) (times_in m v) w in omega arith))
          (λ u. let z = rw u at k in let y = f.few m in omega arith);
    })

pub fresh_end : (v t : List ℕ) {i : ℕ} → Fresh v t i → length v ≤ i → Differ v true
fresh_end v t {i} f h = record {
  yes = λ _ m. let y = f.few m in let k : times_in m (drop i v) ≡ 0 = ap (times_in m) (drop_of_length-le v h) in omega arith;
  no = λ z. false_true (sym z);
}

-- the same of the table before it was put in order
pub differ_before : {v w : List ℕ} {b : Bool} → Shuffled v w → Differ w b → Differ v b
differ_before {v} {w} s d = record {
  yes = λ e m. let h = s.same (λ y. one (eqb y m)) in let k = d.yes e m in omega arith;
  no = λ e. let u = d.no e in (u.0, let h = s.same (λ y. one (eqb y u.0)) in let k = u.1 in omega arith);
}

-- ---- the search for the floor
over_falls : (a b : ℕ) (v : List ℕ) → a ≤ b → over_in b v ≤ over_in a v
over_falls a b [] h = omega arith
over_falls a b (y ∷ v) h = let i = over_falls a b v h in cases (ltb b y)
    (λ u. let k = ltb-true b y u in rw (u, lt-ltb a y (omega arith)) (omega arith))
    (λ u. rw u (omega arith))

new_falls : (num m a b : ℕ) → a ≤ b → new_above_value num m b ≤ new_above_value num m a
unfolding new_above_value
new_falls num m a b h = cases (ltb a num)
    (λ t. cases (ltb b num) (λ u. rw (t, u) (omega arith)) (λ u. let k = ltb-false b num u in cases (ltb b (num + m)) (λ w. rw (t, u, w) (omega arith)) (λ w. rw (t, u, w) (omega arith))))
    (λ t. let x = ltb-false a num t in let y = le-ltb b num (omega arith) in cases (ltb a (num + m))
    (λ u. cases (ltb b (num + m)) (λ w. rw (t, y, u, w) (omega arith)) (λ w. rw (t, y, u, w) (omega arith)))
    (λ u. let z = ltb-false a (num + m) u in rw (t, y, u, le-ltb b (num + m) (omega arith)) (omega arith)))

-- how many of the table and of the m numbers after num are above x
abbrev pub above_in : ℕ → ℕ → List ℕ → ℕ → ℕ
above_in num m v x = over_in x v + new_above_value num m x

above_falls : (num m : ℕ) (v : List ℕ) (a b : ℕ) → a ≤ b → above_in num m v b ≤ above_in num m v a
above_falls num m v a b h = let i = over_falls a b v h in let j = new_falls num m a b h in omega arith

-- all numbers from hi on have fewer than t above them, none below lo has
pub record Between (num m t : ℕ) (v : List ℕ) (lo hi : ℕ) : Type 0 where
  pub order : lo ≤ hi
  pub most : hi ≤ num + m
  pub high : (x : ℕ) → hi ≤ x → above_in num m v x < t
  pub low : (x : ℕ) → x < lo → t ≤ above_in num m v x

over_top : (k : ℕ) (v : List ℕ) → All (λ y. y ≤ k) v → over_in k v ≡ 0
over_top k [] h = refl
over_top k (y ∷ v) h = let i = over_top k v h.1 in let g = h.0 in rw (le-ltb k y g) (omega arith)

new_top : (num m x : ℕ) → num + m ≤ x → new_above_value num m x ≡ 0
unfolding new_above_value
new_top num m x h = cases (ltb x num)
    (λ t. let k = ltb-true x num t in let z : m ≡ 0 = omega arith in rw (t, z))
    (λ t. rw (t, le-ltb x (num + m) h))

pub search_start : (num m t : ℕ) (v : List ℕ) → 0 < t → All (λ y. y ≤ num) v → Between num m t v 0 (num + m)
search_start num m t v h g = record {
  order = omega arith;
  most = omega arith;
  high = λ x z. let a = over_falls num x v (omega arith) in let b = over_top num v g in let c = new_top num m x z in omega arith;
  low = λ x z. absurd (let y : ⊥ = omega arith in y);
}

module _ {num m t : ℕ} {v : List ℕ} {lo hi : ℕ} (mid a b : ℕ) (x : Between num m t v lo hi) (k : mid < hi) (e : a ≡ over_in mid v) (f : b ≡ new_above_value num m mid) where
  pub search_high : lo ≤ mid → a + b < t → Between num m t v lo mid
  search_high l g = record {
    order = l;
    most = omega (arith, x.most);
    high = λ y z. let i = above_falls num m v mid y z in omega arith;
    low = x.low;
  }

  pub search_low : t ≤ a + b → Between num m t v (mid + 1) hi
  search_low g = record {
    order = omega arith;
    most = x.most;
    high = x.high;
    low = λ y z. let i = above_falls num m v y mid (omega arith) in omega arith;
  }

pub search_end : {num m t : ℕ} {v : List ℕ} {lo hi : ℕ} → Between num m t v lo hi → hi ≤ lo → (x : ℕ) → ltb (above_in num m v x) t ≡ leb hi x
search_end {num} {m} {t} {v} {lo} {hi} w h x = cases (leb hi x)
    (λ u. lt-ltb _ _ (w.high x (leb-true hi x u)) ∙ sym u)
    (λ u. le-ltb _ _ (w.low x (let k = leb-false hi x u in omega (arith, w.order))) ∙ sym u)

-- ---- the floor of the records
pub numbers_low : (k : ℕ) (v : List ℕ) (num : ℕ) (l : List Rec) → take k v ≡ numbers_of l → All (λ r. holder? r ≡ false → r.finish ≤ num) l → All (λ y. y ≤ num) (take k v)
numbers_low k v num l e h = rw e (numbers_all num l h)

module _ (num m t k : ℕ) (v : List ℕ) (l : List Rec) (h : k ≤ length v) (e : take k v ≡ numbers_of l) where
  pub floor_zero : k + m ≤ t → {r : ℕ} → r ≡ 0 → ((sum Tombstones l + m ≤ t) × (r ≡ 0)) ⊎ ((x : ℕ) → ltb (above num m l x) t ≡ leb r x)
  unfolding sum weight facts_of
  floor_zero g z = inl (let c = filled_count v l h e in omega arith, z)

  pub floor_found : {r : ℕ} → ((x : ℕ) → ltb (above_in num m (take k v) x) t ≡ leb r x) → ((sum Tombstones l + m ≤ t) × (r ≡ 0)) ⊎ ((x : ℕ) → ltb (above num m l x) t ≡ leb r x)
  unfolding above
  floor_found g = inr (λ x. ap (λ (c : ℕ). ltb (c + new_above_value num m x) t) (numbers_over x l ∙ ap (over_in x) (sym e)) ∙ g x)
