-- Forgetting after a release is a filter by the floor. Assumes nothing.
use Rattle.std.specs.Prelude.{◌≡◌, refl, Bool, true, false, cond, not, ◌&&◌, ◌||◌, ◌⊎◌, List, [], ◌∷◌, ℕ, zero, suc, ◌+◌, ◌-◌, ◌≤◌, ltb, leb, eqb, length}
use Rattle.std.proofs.Common.{ap, sym, subst, ◌∙◌, arith, eq-eqb, ne_eqb}
use Rattle.queue.specs.Codec.{cases, All}
use Rattle.queue.specs.Lists.{Pairwise, all_map, and_true, sub_pairwise, total_same}
use Rattle.queue.specs.bytes.ListLaws.{filter_sub, filter_total, sort_all, sort_total, sort_apart, map_pairwise}
use Rattle.queue.specs.bytes.OrderLaws.{same_self, same_sym}
use Rattle.queue.specs.bytes.ReaderLaws.{false_true}
use Rattle.queue.specs.theorems.SoundParts.{Before}
use Rattle.queue.specs.check.RulesAs.{weight, sum, above_f}
use Rattle.queue.specs.layout.FrameAs.{facts_of}
use Rattle.queue.specs.paper.Decisions.{mined_holder?}
use Rattle.queue.specs.theorems.ReconcileKeeps.{Diff, diff_sym, rising_diff, walk_other, filter_differs}
use Rattle.queue.specs.paper.Records.{Id, Limits, Rec}
use Rattle.queue.specs.paper.Lists.{one, total, filter, sort, map}
use Rattle.queue.specs.paper.Ids.{below?}
use Rattle.queue.specs.paper.Sound.{holder?, mined?, content, tombstones}
use Rattle.queue.specs.paper.Changing.{finished, higher, mined_height, newer?, releases, one_past, place_in, release_one, trimmed}
use Rattle.queue.specs.declared.check.rules.Query.TheVariants.{Tombstones}
use Rattle.queue.proofs.change.FinishLaws.{floors_of, forget_floor, new_none, new_one, zero_leb}
use Rattle.queue.specs.check.NumbersAs.{new_above_value, above}

-- ---- the numbers given
-- what the number of the k-th released counts for, with the numbers after c: nothing at 0; and the sum of n of them
abbrev pub numbered : (ℕ → ℕ) → ℕ → ℕ → ℕ
numbered v c k = cond (eqb k 0) 0 (v (c + k))

unfoldable pub given : (ℕ → ℕ) → ℕ → ℕ → ℕ
given v c zero = 0
given v c (suc n) = v (c + 1) + given v (c + 1) n

numbered_past : (v : ℕ → ℕ) (c k : ℕ) → numbered v c (one_past k) ≡ numbered v (c + 1) k
numbered_past v c zero = refl
numbered_past v c (suc k) =
    let e : c + suc (suc k) ≡ c + 1 + suc k = omega arith in
    rw (ne_eqb (suc (suc k)) 0 (λ z. omega arith), ne_eqb (suc k) 0 (λ z. omega arith), e)

given_all : (c n : ℕ) → given (λ y. 1) c n ≡ n
unfolding given
given_all c zero = refl
given_all c (suc n) = let i = given_all (c + 1) n in omega arith

given_above : (x c n : ℕ) → given (λ y. one (ltb x y)) c n ≡ new_above_value c n x
unfolding given
given_above x c zero = sym (new_none c x)
given_above x c (suc n) =
    let i = given_above x (c + 1) n in
    let e = new_one c n x in
    let z : 1 + n ≡ suc n = omega arith in
    let e' : one (ltb x (c + 1)) + new_above_value (c + 1) n x ≡ new_above_value c (suc n) x = rw z at e in
    omega arith

-- each of ids is the id of one record of l, a holder: the places in ids of the records of l are each number up to their
-- count, once, and 0 for all others
pub record PlacedOnce (ids : List Id) (l : List Rec) : Type 0 where
  pub once : (v : ℕ → ℕ) (c : ℕ) → total (λ r. numbered v c (place_in r.id ids)) l ≡ given v c (length ids)
  pub holds : All (λ r. eqb (place_in r.id ids) 0 ≡ false → holder? r ≡ true) l

-- the verdicts keep holder, finish number and id
abbrev pub KeepsEach : (Rec → Rec) → List Rec → Type 0
KeepsEach f l = All (λ r. (holder? (f r) ≡ holder? r) × ((f r).finish ≡ r.finish) × ((f r).id ≡ r.id)) l

-- ---- the ids of a walk
module _ (m : Limits) (height window : ℕ) where
  others : (v : ℕ → ℕ) (c : ℕ) (r : Rec) (ids : List Id) (l : List Rec) → All (Diff r) l
      → total (λ s. numbered v c (place_in s.id (r.id ∷ ids))) l ≡ total (λ s. numbered v (c + 1) (place_in s.id ids)) l
  others v c r ids l h = total_same (Diff r) (λ s. numbered v c (place_in s.id (r.id ∷ ids))) (λ s. numbered v (c + 1) (place_in s.id ids))
      (λ s d. rw (same_sym s.id r.id, d) (numbered_past v c (place_in s.id ids))) l h

  walk_once : (v : ℕ → ℕ) (c seen b : ℕ) (l : List Rec) → Pairwise Diff l
      → total (λ r. numbered v c (place_in r.id (releases m height window seen b l))) l ≡ given v c (length (releases m height window seen b l))
  unfolding releases given
  walk_once v c seen b [] h = refl
  walk_once v c seen b (r ∷ l) h =
      let b' = b + length (content r.body) in
      let ids = releases m height window (seen + 1) b' l in
      cases (leb window (height - mined_height r) || (leb m.P seen || ltb m.B b'))
      (λ t. let e : releases m height window seen b (r ∷ l) ≡ r.id ∷ ids = rw t in
      let i = walk_once v (c + 1) (seen + 1) b' l h.1 in
      let j = others v c r ids l h.0 in
      subst (λ z. total (λ r. numbered v c (place_in r.id z)) (r ∷ l) ≡ given v c (length z)) (sym e) (rw (same_self r.id) (omega arith)))
      (λ t. let e : releases m height window seen b (r ∷ l) ≡ ids = rw t in
      let i = walk_once v c (seen + 1) b' l h.1 in
      let k = walk_other m height window r.id (seen + 1) b' l h.0 in
      subst (λ z. total (λ r. numbered v c (place_in r.id z)) (r ∷ l) ≡ given v c (length z)) (sym e) (rw k (omega arith)))

  module _ (l : List Rec) (rising : Pairwise Before l) where
    abbrev walked : List Rec
    walked = sort newer? (filter mined_holder? l)

    abbrev ids : List Id
    ids = releases m height window 0 0 walked

    unwalked : All (λ r. mined_holder? r ≡ false → place_in r.id ids ≡ 0) l
    unwalked = all_map l (λ r k t. walk_other m height window r.id 0 0 walked (sort_all newer? (Diff r) (filter mined_holder? l) (k t)))
        (filter_differs mined_holder? l (rising_diff l rising))

    walked_placed : PlacedOnce ids l
    walked_placed = record {
      once = λ v c.
          let w : Rec → ℕ = λ r. numbered v c (place_in r.id ids) in
          total_same (λ r. mined_holder? r ≡ false → place_in r.id ids ≡ 0) w (λ r. cond (mined_holder? r) (w r) 0)
          (λ r k. cases (mined_holder? r) (λ t. rw t) (λ t. rw (t, k t))) l unwalked
          ∙ sym (filter_total mined_holder? w l)
          ∙ sym (sort_total newer? w (filter mined_holder? l))
          ∙ walk_once v c 0 0 walked (sort_apart newer? Diff diff_sym (filter mined_holder? l) (sub_pairwise Diff (filter_sub mined_holder? l) (rising_diff l rising)));
      holds = all_map l (λ r k e. cases (mined_holder? r)
          (λ t. (and_true (mined? r) (holder? r) t).1)
          (λ t. false_true (sym e ∙ eq-eqb _ 0 (k t)))) unwalked;
    }

-- the ids that a release walk over the records after the verdicts gives
pub releases_placed : (m : Limits) (height window : ℕ) (l : List Rec) (f : Rec → Rec) (ids : List Id) → KeepsEach f l → Pairwise Before l
    → ids ≡ releases m height window 0 0 (sort newer? (filter (λ r. mined? r && holder? r) (map f l)))
    → PlacedOnce ids (map f l)
releases_placed m height window l f ids k rising e =
    rw e (walked_placed m height window (map f l) (map_pairwise (λ r. (holder? (f r) ≡ holder? r) × ((f r).finish ≡ r.finish) × ((f r).id ≡ r.id)) Before Before f
    (λ a b p q h. ap (λ i. below? i (f b).id) p.2 ∙ ap (λ i. below? a.id i) q.2 ∙ h) l k rising))

-- ---- what the release adds
module _ (c : ℕ) (ids : List Id) (f : Rec → Rec) (w : Bool → ℕ → ℕ) (no : (n : ℕ) → w true n ≡ 0) where
  abbrev counts : Rec → ℕ
  counts r = w (holder? r) r.finish

  release_one_law : (r : Rec) → (eqb (place_in r.id ids) 0 ≡ false → holder? r ≡ true) → counts (release_one c ids r) ≡ counts r + numbered (w false) c (place_in r.id ids)
  unfolding finished
  release_one_law r h = cases (eqb (place_in r.id ids) 0)
      (λ t. rw t (omega arith))
      (λ t. let z = no r.finish in rw (t, h t, z) (omega arith))

  release_counts : (l : List Rec) → KeepsEach f l → All (λ r. eqb (place_in r.id ids) 0 ≡ false → holder? r ≡ true) (map f l)
      → total counts (map (release_one c ids) (map f l)) ≡ total counts l + total (λ r. numbered (w false) c (place_in r.id ids)) (map f l)
  release_counts [] k h = refl
  release_counts (r ∷ l) k h =
      let i = release_counts l k.1 h.1 in
      let a = release_one_law (f r) h.0 in
      let e : counts (f r) ≡ counts r = ap (λ b. w b (f r).finish) k.0.0 ∙ ap (w (holder? r)) k.0.1 in
      omega arith

module _ (c : ℕ) (l : List Rec) (f : Rec → Rec) (ids : List Id) (keeps : KeepsEach f l) (placed : PlacedOnce ids (map f l)) where
  abbrev after : List Rec
  after = map (release_one c ids) (map f l)

  released_tombs : tombstones after ≡ tombstones l + length ids
  released_tombs =
      let a = release_counts c ids f (λ h n. one (not h)) (λ n. refl) l keeps placed.holds in
      let b = placed.once (λ y. 1) c in
      let d = given_all c (length ids) in
      omega arith

  released_above : (x : ℕ) → higher x after ≡ above c (length ids) l x
  unfolding above sum weight above_f facts_of
  released_above x =
      let a = release_counts c ids f (λ h n. one (not h && ltb x n)) (λ n. refl) l keeps placed.holds in
      let b = placed.once (λ y. one (ltb x y)) c in
      let d = given_above x c (length ids) in
      omega arith

-- ---- forgetting
filter_every : (floor : ℕ) (l : List Rec) → floor ≡ 0 → l ≡ filter (λ y. holder? y || leb floor y.finish) l
filter_every floor [] e = refl
filter_every floor (r ∷ l) e = let i = filter_every floor l e in
    let k : (holder? r || leb floor r.finish) ≡ true = cases (holder? r) (λ t. rw t) (λ t. rw (t, e) (zero_leb r.finish)) in
    rw k (ap (λ v. r ∷ v) i)

some_id : (i : Id) (ids : List Id) → (i ∷ ids) ≡ [] → ⊥
some_id i ids e = let z : ◌≡◌ {A = ℕ} 0 1 = cc in omega arith

-- "then, if any was released, T applies": by the floor that was found for the records as they were
pub trim_is : (t c floor : ℕ) (l : List Rec) (f : Rec → Rec) (ids : List Id) → KeepsEach f l → PlacedOnce ids (map f l)
    → (ids ≡ [] → floor ≡ 0)
    → ((ids ≡ [] → ⊥) → ((sum Tombstones l + length ids ≤ t) × (floor ≡ 0)) ⊎ ((x : ℕ) → ltb (above c (length ids) l x) t ≡ leb floor x))
    → trimmed t ids (map (release_one c ids) (map f l)) ≡ filter (λ y. holder? y || leb floor y.finish) (map (release_one c ids) (map f l))
trim_is t c floor l f [] k p e h = filter_every floor (map (release_one c []) (map f l)) (e refl)
trim_is t c floor l f (i ∷ ids) k p e h =
    forget_floor t floor (after c l f (i ∷ ids) k p)
    (floors_of c (length (i ∷ ids)) t floor l (after c l f (i ∷ ids) k p) (released_tombs c l f (i ∷ ids) k p) (released_above c l f (i ∷ ids) k p) (h (some_id i ids)))
