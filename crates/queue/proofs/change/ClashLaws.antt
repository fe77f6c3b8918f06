-- The laws of lent ids in a table: their rows, bisection by id, the loops, and that it is the clash. Assumes nothing.
use Rattle.std.specs.Prelude.{◌≡◌, refl, Bool, true, false, ◌||◌, List, [], ◌∷◌, ◌++◌, ℕ, ◌+◌, ◌-◌, ◌/◌, ◌≤◌, ◌<◌, ltb, eqb, length, take, get_or, set}
use Rattle.std.specs.List.Sorted.{IsPartitionPoint, IsPartitionedBy}
use Rattle.std.proofs.Common.{ap, sym, ◌∙◌, arith, add-one, take-suc-set, ltb-true, ltb-false, eq-eqb, eqb-true}
use Rattle.std.proofs.lemmas.Bool.{eqb-false}
use Rattle.std.proofs.lemmas.List.{get_or_default}
use Rattle.queue.specs.Basics.{any_count, any_append, or_more, any_same}
use Rattle.queue.specs.Codec.{cases}
use Rattle.queue.specs.bytes.Parts.{part}
use Rattle.queue.specs.bytes.OrderLaws.{cmp_self, same_is, same_sym}
use Rattle.queue.specs.layout.FrameCodec.{rec_c, id_c}
use Rattle.queue.specs.layout.FormsCodec.{form_c, after_in_value}
use Rattle.queue.specs.bytes.ViewAs.{view}
use Rattle.queue.specs.bytes.ReaderAs.{Found, list_at}
use Rattle.queue.specs.check.SuspectsAs.{id_r, up_to, Shuffled, InOrder}
use Rattle.queue.specs.change.ClashAs.{row_has, below_row, RowsOf, CutId, any_of, list_of, MeetsIs, meets_ids, clashes}
use Rattle.queue.specs.change.TouchAs.{SeenHere}
use Rattle.queue.specs.paper.Records.{Bytes, Id, Rec}
use Rattle.queue.specs.paper.Ids.{cmp_l, same?}
use Rattle.queue.specs.paper.Lists.{one, any?}
use Rattle.queue.specs.paper.Sound.{among?}
use Rattle.queue.specs.declared.layout.frame.Seen.{Seen}
use Rattle.queue.proofs.layout.TurnLaws.{Scan, here, on, stop, end, FoundRec, seen, see}
use Rattle.queue.proofs.check.SuspectsRowLaws.{id_short, id_long, up_by, lower_trans, rising, any_none, any_some}

-- ---- a row's id and an id
some_low : (z : Id) → 0 < length z → 0 ≡ cmp_l [] z
unfolding cmp_l
some_low [] h = absurd (let e : ⊥ = omega arith in e)
some_low (b ∷ z) h = refl

module _ (t : Bytes) (x : ℕ) (z : Id) {n : ℕ} (e : n ≡ length (view false t (x / 4294967296))) where
  pub row_short : length z ≡ 32 → n < 32 → 0 ≡ cmp_l (id_r false t x) z
  row_short l h = rw (id_short false t x (omega arith)) (some_low z (omega arith))

  pub row_long : {y : Id} {c : ℕ} → 32 ≤ n → y ≡ part 32 (view false t (x / 4294967296)) 0 → c ≡ cmp_l y z → c ≡ cmp_l (id_r false t x) z
  row_long h f g = rw (id_long false t x (omega arith)) (g ∙ ap (λ (w : Id). cmp_l w z) f)

-- ---- bisection
module _ (t : Bytes) where
  -- a row that is not behind one with a lower id than z has a lower one
  up_low : (x y : ℕ) (z : Id) → up_to false t x y ≡ true → cmp_l (id_r false t y) z ≡ 0 → cmp_l (id_r false t x) z ≡ 0
  up_low x y z u h = up_by false t x y u
      (λ p. lower_trans false t (id_r false t x) (id_r false t y) z p h)
      (λ p _. rw p h)

  low_other : (x : ℕ) (z : Id) → cmp_l (id_r false t x) z ≡ 0 → row_has t z x ≡ false
  unfolding row_has
  low_other x z h = same_sym z (id_r false t x) ∙ rw h

module _ (t : Bytes) (v : List ℕ) (z : Id) where
  -- those with a lower id come before the others
  pub id_parted : InOrder false t v → IsPartitionedBy (below_row t z) v
  id_parted o i j d h l k =
      let a = get_or_default v i d 0 (omega arith) in
      let b = get_or_default v j d 0 l in
      let e : cmp_l (id_r false t (get_or v j 0)) z ≡ 0 = eqb-true _ 0 (rw b at k) in
      rw a (eq-eqb _ 0 (up_low t (get_or v i 0) (get_or v j 0) z (rising false t v o i j h l) e))

  pub id_cut : {n : ℕ} → n ≤ length v → IsPartitionPoint (λ x. below_row t z x ≡ true) (λ x. below_row t z x ≡ false) v n → CutId t v z n
  id_cut h p = record { within = h; low = λ i k. eqb-true _ 0 (p.0 i 0 (omega arith) k); high = λ i k l. eqb-false _ 0 (p.1 i 0 k l) }

  module _ {b : ℕ} (o : InOrder false t v) (c : CutId t v z b) where
    pub has_none : length v ≤ b → false ≡ any? (row_has t z) v
    has_none h = sym (any_none (row_has t z) v (λ i k. low_other t (get_or v i 0) z (c.low i (omega arith))))

    pub has_here : {r : ℕ} → b < length v → r ≡ cmp_l (id_r false t (get_or v b 0)) z → eqb r 1 ≡ any? (row_has t z) v
    unfolding row_has
    has_here {r} h e = cases (eqb r 1)
        (λ u. u ∙ sym (any_some (row_has t z) v b h (same_sym z (id_r false t (get_or v b 0)) ∙ ap (λ (k : ℕ). eqb k 1) (sym e) ∙ u)))
        (λ u. u ∙ sym (any_none (row_has t z) v (λ i k. cases (ltb i b)
        (λ d. low_other t (get_or v i 0) z (c.low i (ltb-true i b d)))
        (λ d. cases (same? z (id_r false t (get_or v i 0)))
        (λ s.
        let q = same_is z (id_r false t (get_or v i 0)) s in
        absurd (up_by false t (get_or v b 0) (get_or v i 0) (rising false t v o b i (ltb-false i b d) k)
        (λ p. c.high b (omega arith) h (rw q p))
        (λ p _. eqb-false r 1 u (e ∙ rw (q, p) (cmp_self (id_r false t (get_or v i 0)))))))
        (λ s. s)))))

-- ---- the table filled

or_none : (a : Bool) → (a || false) ≡ a
or_none true = refl
or_none false = refl

unfoldable pub rows_f : Bytes → Id → List ℕ → List Id → Bool
rows_f t z v l = any? (row_has t z) v || among? z l

module _ (t : Bytes) {n i left : ℕ} {w : List ℕ} (x : (z : Id) → Scan id_c (rows_f t z) (view false t 0) n 0 [] i left w) where
  pub rows_go : (k : ℕ) {next : ℕ} {y : Id} {w' : List ℕ} → 0 < left → Found id_c (view false t 0) i next (λ a. a ≡ y) → id_r false t k ≡ y → w' ≡ w ++ (k ∷ []) → (z : Id) → Scan id_c (rows_f t z) (view false t 0) n 0 [] next (left - 1) w'
  unfolding rows_f row_has
  rows_go k {next} {y = y} {w'} h r e f z =
      let u = here (x z) h r in
      let l = list_at id_c (left - 1) (view false t 0) next in
      let g : any? (row_has t z) w' ≡ (any? (row_has t z) w || (same? z y || false)) = ap (any? (row_has t z)) f ∙ any_append (row_has t z) w (k ∷ []) ∙ rw e in
      on (x z) w' h u (rw (u.is, g) (sym (or_more (any? (row_has t z) w) (same? z y) (among? z l))))

  pub rows_end : left ≡ 0 → RowsOf t n w
  unfolding rows_f
  rows_end e = record { has = λ z. sym (or_none (any? (row_has t z) w)) ∙ end (x z) e }

pub rows_take : (v : List ℕ) (k x : ℕ) → k < length v → take (k + 1) (set v k x) ≡ take k v ++ (x ∷ [])
rows_take v k x h = rw add-one (take-suc-set v k x h)

pub rows_moved : {t : Bytes} {k : ℕ} {v w : List ℕ} → Shuffled v w → RowsOf t k v → RowsOf t k w
rows_moved {t} {k} {v} {w} s r = record {
  has = λ z. any_count (row_has t z) w ∙ ap (ltb 0) (s.same (λ a. one (row_has t z a))) ∙ sym (any_count (row_has t z) v) ∙ r.has z;
}

-- ---- the loops
unfoldable pub any_f : List Id → Unit {0} → List Id → Bool
any_f ids u l = any_of ids l

module _ (ids : List Id) {v : Bytes} {n at i left : ℕ} (x : Scan id_c (any_f ids) v n at tt i left tt) where
  module _ {next : ℕ} {b : Bool} {y : Id} (h : 0 < left) (r : Found id_c v i next (λ w. w ≡ y)) (e : b ≡ among? y ids) where
    pub any_go : b ≡ false → Scan id_c (any_f ids) v n at tt next (left - 1) tt
    unfolding any_f any_of
    any_go f = let t = here x h r in on x tt h t (rw (t.is, ← e, f))

    pub any_stop : b ≡ true → true ≡ any_of ids (list_at id_c n v at)
    unfolding any_f any_of
    any_stop f = let t = here x h r in stop x t (rw (t.is, ← e, f))

  pub any_end : left ≡ 0 → false ≡ any_of ids (list_at id_c n v at)
  unfolding any_f any_of
  any_end e = end x e

-- those of one record
module _ (s : Bytes) (base : ℕ) (x : Seen) {read : Bool} (ids : List Id) {b : Bool} where
  pub meets_read : read ≡ true → b ≡ any_of ids (list_at id_c x.facts.reads (view false s base) x.reads) → MeetsIs s base x read ids b
  meets_read t e r w = e ∙ ap (any_of ids) w.0.reads_list ∙ rw t

  pub meets_spent : read ≡ false → b ≡ any_of ids (list_at id_c x.facts.ins (view false s base) x.at) → MeetsIs s base x read ids b
  meets_spent t e r w = e ∙ ap (any_of ids) w.0.ins_list ∙ rw t

unfoldable pub meet_f : Bool → List Id → Unit {0} → List Rec → Bool
meet_f read ids u l = meets_ids read ids l

module _ (read : Bool) (ids : List Id) {s : Bytes} {n at i left : ℕ} (x : Scan (form_c false rec_c) (meet_f read ids) s n at tt i left tt) where
  module _ {m : ℕ} {y : Seen} (h : 0 < left) (r : FoundRec false s i m y) where
    pub meet_seen : SeenHere s i y
    meet_seen = let t = seen false x h r in (t.item, (t.is.0, t.is.1.fine))

    module _ {b : Bool} (e : MeetsIs s i y read ids b) where
      pub meet_go : {j : ℕ} → j ≡ after_in_value false s i m → b ≡ false → Scan (form_c false rec_c) (meet_f read ids) s n at tt j (left - 1) tt
      unfolding meet_f meets_ids
      meet_go g f = let t = see false x h r g in on x tt h t (rw (← (e t.item (t.is.0, t.is.1.fine)), f))

      pub meet_stop : b ≡ true → true ≡ meets_ids read ids (list_at (form_c false rec_c) n s at)
      unfolding meet_f meets_ids
      meet_stop f = let t = seen false x h r in stop x t (rw (← (e t.item (t.is.0, t.is.1.fine)), f))

  pub meet_end : left ≡ 0 → false ≡ meets_ids read ids (list_at (form_c false rec_c) n s at)
  unfolding meet_f meets_ids
  meet_end e = end x e

-- ---- the clash
module _ {A : Type 0} where
  any_or : (p q : A → Bool) (l : List A) → any? (λ a. p a || q a) l ≡ (any? p l || any? q l)
  any_or p q [] = refl
  any_or p q (a ∷ l) = rw (any_or p q l) (mix (p a) (q a) (any? p l) (any? q l))
    where
      mix : (a b c d : Bool) → ((a || b) || (c || d)) ≡ ((a || c) || (b || d))
      mix true b c d = refl
      mix false true true d = refl
      mix false true false d = refl
      mix false false c d = refl

  any_never : (l : List A) → any? (λ a. false) l ≡ false
  any_never [] = refl
  any_never (a ∷ l) = any_never l

any_swap : (a b : List Id) → any? (λ i. among? i b) a ≡ any? (λ z. among? z a) b
any_swap [] b = sym (any_never b)
any_swap (x ∷ a) b = rw (any_swap a b) (ap (λ (k : Bool). k || any? (λ z. among? z a) b) (any_same (same? x) (λ z. same? z x) (λ z. same_sym x z) b) ∙ sym (any_or (λ z. same? z x) (λ z. among? z a) b))

pub meets_clash : (read : Bool) (ids : List Id) (l : List Rec) → meets_ids read ids l ≡ clashes read ids l
unfolding meets_ids any_of clashes
meets_clash read ids [] = sym (any_never ids)
meets_clash read ids (r ∷ l) = rw (meets_clash read ids l, ← any_swap ids (list_of read r)) (sym (any_or (λ i. among? i (list_of read r)) (λ i. any? (λ y. among? i (list_of read y)) l) ids))
