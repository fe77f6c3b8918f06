use Rattle.queue.specs.bytes.OrderAs.{order_number}
use Rattle.std.specs.declared.cmp.Ordering.{Ordering}
use Rattle.std.specs.Ordering.{is_eq}
use Rattle.queue.proofs.change.IdLaws.{alike}
-- The rank of a released record, by rows in the order of their ids. Assumes nothing.
use Rattle.std.specs.Prelude.{◌≡◌, refl, Bool, true, false, ◌&&◌, List, [], ◌∷◌, ℕ, zero, suc, ◌+◌, ◌≤◌, ◌<◌, ltb, eqb, length, get_or, set, take}
use Rattle.std.proofs.Common.{ap, sym, ◌∙◌, arith, get_or-set_same, get_or-set_other, drop-drop, eq-eqb, eqb-true, ltb-true, ltb-false, lt-ltb}
use Rattle.std.proofs.lemmas.Bool.{eqb-false}
use Rattle.queue.specs.Basics.{any_at}
use Rattle.queue.proofs.check.SuspectsLaws.{shuffled_any}
use Rattle.queue.specs.Codec.{cases}
use Rattle.queue.specs.Lists.{and_true}
use Rattle.queue.specs.bytes.OrderLaws.{cmp_self, same_is, or_true}
use Rattle.queue.specs.bytes.ReaderLaws.{false_true}
use Rattle.queue.specs.bytes.Parts.{part}
use Rattle.queue.specs.bytes.ViewAs.{view}
use Rattle.queue.specs.read.SelectAs.{id_at}
use Rattle.queue.specs.check.SuspectsAs.{id_r, no_r, later, Cut}
use Rattle.queue.specs.change.RanksAs.{Ranked}
use Rattle.queue.specs.paper.Records.{Bytes, Id}
use Rattle.queue.specs.paper.Ids.{cmp_l, same?}
use Rattle.queue.specs.paper.Lists.{any?, map}
use Rattle.queue.specs.paper.Changing.{place_in}
use Rattle.queue.proofs.check.SuspectsRowLaws.{up_by, later_no, rising, any_some, look_none, look_here}

-- ---- the rows, one after the other
abbrev pub RowsTo : Bytes → List ℕ → List ℕ → ℕ → Type 0
RowsTo s gone rows i = (j : ℕ) → j < i → (id_r false s (get_or rows j 0) ≡ id_at s (get_or gone j 0)) × (no_r (get_or rows j 0) ≡ j + 1)

pub id_in_law : (s : Bytes) (p : ℕ) → part 32 (view false s p) 1 ≡ id_at s p
unfolding part view
id_in_law s p = ap (take 32) (drop-drop 1 p s)

pub rows_go : (s : Bytes) (gone rows : List ℕ) (i w : ℕ) {rows' : List ℕ} → RowsTo s gone rows i → i < length rows → rows' ≡ set rows i w → id_r false s w ≡ part 32 (view false s (get_or gone i 0)) 1 → no_r w ≡ i + 1 → RowsTo s gone rows' (i + 1)
rows_go s gone rows i w {rows'} h l e f g j k = cases (eqb j i)
    (λ t.
    let q = eqb-true j i t in
    let v : get_or rows' j 0 ≡ w = ap (λ r. get_or r j 0) e ∙ rw q (get_or-set_same rows i w 0 l) in
    (ap (id_r false s) v ∙ f ∙ id_in_law s (get_or gone i 0) ∙ ap (λ n. id_at s (get_or gone n 0)) (sym q), ap no_r v ∙ g ∙ ap (λ n. n + 1) (sym q)))
    (λ t.
    let n = eqb-false j i t in
    let v : get_or rows' j 0 ≡ get_or rows j 0 = ap (λ r. get_or r j 0) e ∙ get_or-set_other rows i j w 0 n in
    let u = h j (lower j i k n) in
    (ap (id_r false s) v ∙ u.0, ap no_r v ∙ u.1))
  where
    lower : (j i : ℕ) → j < i + 1 → (j ≡ i → ⊥) → j < i
    lower j i k n = cases (ltb j i) (λ t. ltb-true j i t) (λ t. let m = ltb-false j i t in absurd (n (let e : j ≡ i = omega arith in e)))

-- ---- the first place
place_none : (z : Id) (l : List Id) → ((j : ℕ) → j < length l → same? z (get_or l j []) ≡ false) → place_in z l ≡ 0
place_none z [] h = refl
place_none z (x ∷ l) h = rw (h 0 (omega arith), place_none z l (λ j k. h (suc j) (omega arith)))

place_first : (z : Id) (l : List Id) (r : ℕ) → r < length l → same? z (get_or l r []) ≡ true → ((j : ℕ) → j < r → same? z (get_or l j []) ≡ false) → place_in z l ≡ suc r
place_first z [] r h e f = absurd (let y : ⊥ = omega arith in y)
place_first z (x ∷ l) zero h e f = rw e
place_first z (x ∷ l) (suc r) h e f = rw (f 0 (omega arith), place_first z l r (omega arith) e (λ j k. f (suc j) (omega arith)))

map_at : (s : Bytes) (g : List ℕ) (j : ℕ) → j < length g → get_or (map (id_at s) g) j [] ≡ id_at s (get_or g j 0)
map_at s [] j h = absurd (let y : ⊥ = omega arith in y)
map_at s (a ∷ g) zero h = refl
map_at s (a ∷ g) (suc j) h = map_at s g j (omega arith)

map_many : (s : Bytes) (g : List ℕ) → length (map (id_at s) g) ≡ length g
map_many s [] = refl
map_many s (a ∷ g) = ap suc (map_many s g)

any_by : {X : Type 0} (p : ℕ → Bool) (v : List ℕ) → any? p v ≡ true → ((i : ℕ) → i < length v → p (get_or v i 0) ≡ true → X) → X
any_by p [] e k = false_true e
any_by p (x ∷ v) e k = or_true (p x) (any? p v) e (λ t. k 0 (omega arith) t) (λ _ t. any_by p v t (λ i h. k (suc i) (omega arith)))

module _ (s : Bytes) (gone rows : List ℕ) (g : Ranked s gone rows) (y : ℕ) {b : ℕ} (z : Id) (c : Cut false s rows y b b) (ez : id_r false s y ≡ z) (en : no_r y ≡ 0) where
  abbrev ids : List Id
  ids = map (id_at s) gone

  -- the rows of z with the number r
  abbrev has : ℕ → ℕ → Bool
  has r x = same? z (id_r false s x) && eqb (no_r x) r

  first_at : (j : ℕ) → j < length gone → (same? z (id_r false s (get_or g.first j 0)) ≡ same? z (get_or ids j [])) × (no_r (get_or g.first j 0) ≡ j + 1)
  first_at j h = let u = g.are.at j h in (ap (same? z) (u.0 ∙ sym (map_at s gone j h)), u.1)

  no_later : any? (later false s (id_r false s y) (no_r y)) rows ≡ false → place_in z ids ≡ 0
  unfolding later
  no_later e = place_none z ids (λ j h.
      let k : j < length gone = omega (arith, map_many s gone) in
      let u = first_at j k in
      let q : any? (later false s z 0) g.first ≡ false = sym (shuffled_any (later false s z 0) g.kept) ∙ rw (ez, en) at e in
      let p : (same? z (id_r false s (get_or g.first j 0)) && ltb 0 (no_r (get_or g.first j 0))) ≡ false = any_at (later false s z 0) g.first j q (omega (arith, g.are.long)) in
      sym u.0 ∙ none (same? z (id_r false s (get_or g.first j 0))) (rw (u.1, lt-ltb 0 (j + 1) (omega arith)) at p))
    where
      none : (a : Bool) → (a && true) ≡ false → a ≡ false
      none true e = e
      none false e = refl

  pub rank_none : length rows ≤ b → 0 ≡ place_in z (map (id_at s) gone)
  rank_none h = sym (no_later (sym (look_none false s rows g.order c h)))

  module _ (h : b < length rows) (ord : Ordering) {same : Bool} (f : same ≡ is_eq ord) (e : order_number ord ≡ cmp_l (id_r false s y) (id_r false s (get_or rows b 0))) where
    pub rank_other : same ≡ false → 0 ≡ place_in z (map (id_at s) gone)
    rank_other n = sym (no_later (sym (look_here false s rows g.order c ord h f e) ∙ n))

    module _ (yes : same ≡ true) where
      t : order_number ord ≡ 1
      t = eqb-true (order_number ord) 1 (sym (alike ord f refl) ∙ yes)

      row : ℕ
      row = get_or rows b 0

      its : same? z (id_r false s (get_or rows b 0)) ≡ true
      its = eq-eqb (cmp_l z (id_r false s (get_or rows b 0))) 1 (ap (λ i. cmp_l i (id_r false s (get_or rows b 0))) (sym ez) ∙ sym e ∙ t)

      -- a row of z has no lower number
      lowest : (i m : ℕ) → i < length rows → has m (get_or rows i 0) ≡ true → 0 < m → no_r (get_or rows b 0) ≤ m
      unfolding later
      lowest i m k q p =
          let u = and_true (same? z (id_r false s (get_or rows i 0))) (eqb (no_r (get_or rows i 0)) m) q in
          let n = eqb-true (no_r (get_or rows i 0)) m u.1 in
          cases (ltb i b)
          (λ w.
          let f = later_no false s y (get_or rows i 0) (c.low i (ltb-true i b w)) in
          let v : (same? z (id_r false s (get_or rows i 0)) && ltb 0 (no_r (get_or rows i 0))) ≡ false = rw (ez, en) at f in
          let x : ◌≡◌ {A = Bool} true false = rw (u.0, lt-ltb 0 (no_r (get_or rows i 0)) (omega arith)) at v in
          false_true (sym x))
          (λ w. up_by false s (get_or rows b 0) (get_or rows i 0) (rising false s rows g.order b i (ltb-false i b w) k)
          (λ f.
          let a : id_r false s (get_or rows b 0) ≡ id_r false s (get_or rows i 0) = sym (same_is z (id_r false s (get_or rows b 0)) its) ∙ same_is z (id_r false s (get_or rows i 0)) u.0 in
          let d : cmp_l (id_r false s (get_or rows b 0)) (id_r false s (get_or rows i 0)) ≡ 1 = rw a (cmp_self (id_r false s (get_or rows i 0))) in
          absurd (let o : ⊥ = omega arith in o))
          (λ _ f. omega arith))

      pub rank_here : no_r (get_or rows b 0) ≡ place_in z (map (id_at s) gone)
      rank_here =
          let m = no_r (get_or rows b 0) in
          let q : has m (get_or rows b 0) ≡ true = rw (its, eq-eqb m m refl) in
          let a : any? (has m) g.first ≡ true = sym (shuffled_any (has m) g.kept) ∙ any_some (has m) rows b h q in
          any_by (has m) g.first a (λ j k p.
          let o : j < length gone = omega (arith, g.are.long) in
          let u = first_at j o in
          let v = and_true (same? z (id_r false s (get_or g.first j 0))) (eqb (no_r (get_or g.first j 0)) m) p in
          let n : m ≡ j + 1 = sym (eqb-true (no_r (get_or g.first j 0)) m v.1) ∙ u.1 in
          let w = place_first z ids j (omega (arith, map_many s gone)) (sym u.0 ∙ v.0) (λ i l. before i (omega arith) (omega arith)) in
          n ∙ (let d : j + 1 ≡ suc j = omega arith in d) ∙ sym w)
        where
          before : (i : ℕ) → i < length gone → i + 1 < no_r (get_or rows b 0) → same? z (get_or ids i []) ≡ false
          before i o l =
              let u = first_at i o in
              cases (same? z (get_or ids i []))
              (λ f.
              let q : has (i + 1) (get_or g.first i 0) ≡ true = rw (u.0, f, u.1, eq-eqb (i + 1) (i + 1) refl) in
              let a : any? (has (i + 1)) rows ≡ true = shuffled_any (has (i + 1)) g.kept ∙ any_some (has (i + 1)) g.first i (omega (arith, g.are.long)) q in
              any_by (has (i + 1)) rows a (λ j k p. let v = lowest j (i + 1) k p (omega arith) in absurd (let x : ⊥ = omega arith in x)))
              (λ f. f)
