-- What is lent to a reconciliation. Assumes nothing.
use Rattle.queue.proofs.layout.RisingLaws.{is_among, not_among}
use Rattle.queue.proofs.read.ReservedStandLaws.{order_is, order_rises, chunks_pieces, pieces_front}
use Rattle.queue.specs.bytes.OrderLaws.{cmp_flip}
use Rattle.queue.specs.paper.Sound.{among?}
use Rattle.queue.specs.theorems.Plain.{ids_plain}
use Rattle.queue.specs.bytes.ReaderAs.{whole, list_at, is_got, val_of}
use Rattle.queue.specs.layout.FrameCodec.{id_c}
use Rattle.queue.specs.Codec.{Got, fail, got, All, decs, vec_bwd, vec_c, cases}
use Rattle.std.specs.Simd.{first_chunks}
use Rattle.std.specs.List.Sorted.{IsBinarySearchResult, IsSearchInRange}
use Rattle.std.specs.Cmp.Lexicographic.{slice_cmp}
use Rattle.std.specs.Ordering.{nat_cmp, ordering_index}
use Rattle.std.specs.Prelude.{◌≡◌, refl, Bool, true, false, ◌&&◌, List, ◌∷◌, ℕ, zero, suc, ◌+◌, ◌-◌, ◌*◌, ◌/◌, ◌%◌, ◌≤◌, ◌<◌, leb, eqb, length, take, drop, [], ◌++◌, ltb, get_or, Result, Ok, Err, is_ok}
use Rattle.std.proofs.Common.{ap, sym, ◌∙◌, arith, div-add-mod', take-take, drop-drop, eq-eqb, ne_eqb, eqb-true, append_assoc, take_at, drop_at, length-append, length-take-le, ltb-true, ltb-false}
use Rattle.queue.specs.Basics.{and_same}
use Rattle.queue.specs.bytes.Parts.{part}
use Rattle.queue.specs.Lists.{and_true}
use Rattle.queue.specs.bytes.ViewAs.{view}
use Rattle.queue.specs.bytes.ReaderLaws as readlaws
use Rattle.queue.specs.bytes.ReaderLaws.{false_true}
use Rattle.queue.specs.change.ReopenAs.{ids_at, IdsIn}
use Rattle.queue.specs.change.TouchAs.{entry_ids}
use Rattle.queue.specs.change.LentAs.{EntriesAre, IdsAre, ReconcileAsked}
use Rattle.queue.specs.paper.Records.{Bytes, Id}
use Rattle.queue.specs.paper.Lists.{map, concat}
use Rattle.queue.specs.paper.Ids.{cmp_l, below?, rise?}
use Rattle.queue.specs.paper.Calls.{id?, whole?, flag?, items, pieces}
use Rattle.queue.proofs.change.AdmitExitLaws.{long_is, small_of}
use Rattle.queue.proofs.change.ReopenLaws.{lent_whole, lent_in, lent_are}

-- ---- entries that rise
pub record Rising (t : Bytes) (k i left : ℕ) : Type 0 where
  pub within : i + left * 68 ≡ length t
  pub same : rise? (entry_ids (drop i t) left) ≡ rise? (entry_ids t k)

pub rise_start : (t : Bytes) (k : ℕ) → length t ≡ k * 68 → Rising t k 0 k
rise_start t k e = record { within = omega arith; same = refl }

abbrev id_in : Bytes → ℕ → Id
id_in t i = part 32 (view false t 0) i

cut : (t : Bytes) (i left : ℕ) → 0 < left → entry_ids (drop i t) left ≡ id_in t i ∷ entry_ids (drop (i + 68) t) (left - 1)
unfolding part view
cut t i left h =
    let n : left ≡ suc (left - 1) = omega arith in
    ap (entry_ids (drop i t)) n ∙ ap (λ (a : Id). a ∷ entry_ids (drop 68 (drop i t)) (left - 1)) (take-take 32 68 (drop i t) (omega arith)) ∙ ap (λ (l : Bytes). take 32 (drop i t) ∷ entry_ids l (left - 1)) (drop-drop 68 i t)

rise_two : (a b : Id) (l : List Id) → rise? (a ∷ b ∷ l) ≡ (below? a b && rise? (b ∷ l))
unfolding rise?
rise_two a b l = refl

module _ {t : Bytes} {k i left : ℕ} (x : Rising t k i left) (h : 1 < left) where
  abbrev rest : List Id
  rest = entry_ids (drop (i + 68 + 68) t) (left - 1 - 1)

  turn : rise? (entry_ids (drop i t) left) ≡ (below? (id_in t i) (id_in t (i + 68)) && rise? (entry_ids (drop (i + 68) t) (left - 1)))
  turn =
      let c = cut t (i + 68) (left - 1) (omega arith) in
      ap rise? (cut t i left (omega arith) ∙ ap (λ (l : List Id). id_in t i ∷ l) c) ∙ rise_two (id_in t i) (id_in t (i + 68)) rest
      ∙ ap (λ (l : List Id). below? (id_in t i) (id_in t (i + 68)) && rise? l) (sym c)

  pub rise_go : cmp_l (part 32 (view false t 0) i) (part 32 (view false t 0) (i + 68)) ≡ 0 → Rising t k (i + 68) (left - 1)
  rise_go e = record { within = omega (arith, x.within); same = sym (turn ∙ rw (eq-eqb (cmp_l (id_in t i) (id_in t (i + 68))) 0 e)) ∙ x.same }

  pub rise_stop : (cmp_l (part 32 (view false t 0) i) (part 32 (view false t 0) (i + 68)) ≡ 0 → ⊥) → false ≡ rise? (entry_ids t k)
  rise_stop e = sym (turn ∙ rw (ne_eqb (cmp_l (id_in t i) (id_in t (i + 68))) 0 e)) ∙ x.same

few_rise : (t : Bytes) (n : ℕ) → n ≤ 1 → true ≡ rise? (entry_ids t n)
unfolding rise?
few_rise t zero h = refl
few_rise t (suc zero) h = refl
few_rise t (suc (suc n)) h = absurd (let y : ⊥ = omega arith in y)

pub rise_end : {t : Bytes} {k i left : ℕ} → Rising t k i left → left ≤ 1 → true ≡ rise? (entry_ids t k)
rise_end {t} {k} {i} {left} x h = few_rise (drop i t) left h ∙ x.same

-- ---- as they were measured

whole_no : (k : ℕ) (s : Bytes) {n : ℕ} (b : Bool) → n ≡ length (view false s 0) → (n % k ≡ 0 → ⊥) → false ≡ (whole? k s && b)
unfolding view
whole_no k s {n} b l z = ap (λ (v : Bool). v && b) (sym (ap (λ (m : ℕ). eqb (m % k) 0) (sym l) ∙ ne_eqb (n % k) 0 z))

module _ (t : Bytes) {n : ℕ} (l : n ≡ length (view false t 0)) (h : readlaws.SmallAt (view false t 0)) where
  pub entries_no : (n % 68 ≡ 0 → ⊥) → EntriesAre t false
  entries_no z = record { is = whole_no 68 t (rise? (map (take 32) (items 68 t))) l z; small = small_of t h }

  pub entries_long : n % 68 ≡ 0 → length t ≡ (n / 68) * 68
  unfolding view
  entries_long z = let d = div-add-mod' n 68 in sym l ∙ omega arith

  pub entries_are : {r : Bool} → n % 68 ≡ 0 → r ≡ rise? (entry_ids t (n / 68)) → EntriesAre t r
  unfolding view items
  entries_are {r} z e = record {
    is = e ∙ ap (λ (m : ℕ). rise? (entry_ids t (m / 68))) l ∙ ap (λ (v : Bool). v && rise? (map (take 32) (items 68 t))) (sym (ap (λ (m : ℕ). eqb (m % 68) 0) (sym l) ∙ eq-eqb (n % 68) 0 z));
    small = small_of t h;
  }

module _ (ids : Bytes) {n : ℕ} (l : n ≡ length (view false ids 0)) where
  pub ids_no : (n % 32 ≡ 0 → ⊥) → IdsAre ids false
  ids_no z = record { is = whole_no 32 ids (rise? (items 32 ids)) l z; good = λ f. false_true f }

  module _ (h : readlaws.SmallAt (view false ids 0)) (z : n % 32 ≡ 0) {r : Bool} (e : r ≡ rise? (ids_at ids (n / 32))) where
    many : n / 32 ≡ length ids / 32
    unfolding view
    many = ap (λ (m : ℕ). m / 32) l

    pub ids_rise : IdsAre ids r
    ids_rise = record {
      is = e ∙ ap rise? (lent_are ids l h z) ∙ ap (λ (v : Bool). v && rise? (items 32 ids)) (sym (eq-eqb (length ids % 32) 0 (lent_whole ids l h z)));
      good = λ f. rw (← many) (record { all = lent_in ids l h z; rise = sym e ∙ f }, lent_are ids l h z);
    }

-- ---- the whole check
pub asked : (tip : Bytes) (flag : ℕ) (t ids : Bytes) {n : ℕ} {r u a b c : Bool} → r ≡ (a && u) → u ≡ (b && c) → a ≡ (eqb n 32 && leb flag 1) → n ≡ length (view false tip 0) → readlaws.SmallAt (view false tip 0) → EntriesAre t b → IdsAre ids c → ReconcileAsked tip flag t ids r
unfolding items
asked tip flag t ids {n} {r} {u} {a} {b} {c} e f g l h i j =
    let k : a ≡ (id? tip && flag? flag) = g ∙ and_same (long_is tip l) refl in
    record {
      is = e ∙ and_same k (f ∙ and_same i.is j.is);
      small_tip = small_of tip h;
      small_applied = i.small;
      good = λ y.
          let p = and_true a u (sym e ∙ y) in
          let q = and_true b c (sym f ∙ p.1) in
          let v = and_true (id? tip) (flag? flag) (sym k ∙ p.0) in
          let w = and_true (whole? 68 t) (rise? (map (take 32) (items 68 t))) (sym i.is ∙ q.0) in
          let o = j.good q.1 in
          let d = div-add-mod' (length t) 68 in
          let z = eqb-true (length t % 68) 0 w.0 in
          record { long = eqb-true (length tip) 32 v.0; entries = record { all = omega arith; rise = w.1 }; applied = refl; rise = o.0; available = o.1 };
    }

-- ---- lent ids as the library's rows
ids_long : (l : List Id) → All id_c.ok l → length (concat l) ≡ 32 * length l
unfolding id_c vec_c
ids_long [] a = refl
ids_long (i ∷ l) a = length-append i (concat l) ∙ omega (arith, a.0.1, ids_long l a.1)

pieces_back : (l : List Id) (r : Bytes) → All id_c.ok l → pieces 32 (length l) (concat l ++ r) ≡ l
unfolding id_c vec_c
pieces_back [] r a = refl
pieces_back (i ∷ l) r a =
    let e = append_assoc i (concat l) r in
    rw e (two (take_at i (concat l ++ r) 32 a.0.1) (ap (pieces 32 (length l)) (drop_at i (concat l ++ r) 32 a.0.1) ∙ pieces_back l r a.1))
  where
    two : {x y : Id} {m n : List Id} → x ≡ y → m ≡ n → x ∷ m ≡ y ∷ n
    two e f = cc

module _ (t : Bytes) (k : ℕ) (w : IdsIn t k) where
  ids_rows : (ids_at t k ≡ pieces 32 k t) × (32 * k ≤ length t)
  unfolding whole list_at view
  ids_rows = go (decs id_c k t) refl w
    where
      go : (o : Got (List Id)) → decs id_c k t ≡ o → is_got o ≡ true → (val_of o ≡ pieces 32 k t) × (32 * k ≤ length t)
      go fail p h = false_true h
      go (got l r) p h =
          let u = vec_bwd id_c k t l r p in
          let e : t ≡ concat l ++ r = u.0 ∙ ap (λ (s : Bytes). s ++ r) (ids_plain l) in
          (sym (ap (λ n. pieces 32 n t) (sym u.1.1) ∙ ap (pieces 32 (length l)) e ∙ pieces_back l r u.1.0), omega (arith, ap length e, length-append (concat l) r, ids_long l u.1.0, u.1.1))

  pub rows_room : 32 * k ≤ length t
  rows_room = ids_rows.1

  pub rows_are : first_chunks 32 (length (take (32 * k) t) / 32) (take (32 * k) t) ≡ ids_at t k
  rows_are =
      let n : length (take (32 * k) t) / 32 ≡ k = let l = length-take-le (32 * k) t ids_rows.1 in omega arith in
      rw n (chunks_pieces k (take (32 * k) t) ∙ pieces_front k t ∙ sym ids_rows.0)

-- the library's search says whether the id is among them
module _ (z : Id) (l : List Id) (r : rise? l ≡ true) where
  pub found_among : (x : Result ℕ ℕ) {b : Bool} {n : ℕ} → b ≡ is_ok x → n ≡ length l → IsSearchInRange x n → IsBinarySearchResult (λ y. slice_cmp nat_cmp y z) l x → b ≡ among? z l
  found_among (Ok i) e m s h =
      let q : cmp_l (get_or l i []) z ≡ 1 = sym (order_is (get_or l i []) z) ∙ ap ordering_index (h []) in
      e ∙ is_among z l i (omega arith) (let f = (cmp_flip (get_or l i []) z).0 in omega arith)
  found_among (Err i) e m s h =
      let p = h (order_rises z l r) in
      e ∙ not_among z l (λ j k c. cases (ltb j i)
      (λ t.
      let q : cmp_l (get_or l j []) z ≡ 0 = sym (order_is (get_or l j []) z) ∙ ap ordering_index (p.0 j [] (omega arith) (ltb-true j i t)) in
      let f = (cmp_flip (get_or l j []) z).0 in omega arith)
      (λ t.
      let q : cmp_l (get_or l j []) z ≡ 2 = sym (order_is (get_or l j []) z) ∙ ap ordering_index (p.1 j [] (ltb-false j i t) k) in
      let f = (cmp_flip (get_or l j []) z).0 in omega arith))
