-- The counters list the same as the definition.
use Rattle.std.specs.Prelude.{◌≡◌, refl, Bool, true, false, cond, not, List, [], ◌∷◌, ℕ, zero, suc, ◌+◌, ◌-◌, ◌<◌, ltb, eqb, length, get_or, set, replicate}
use Rattle.std.proofs.Common.{sym, ap, ◌∙◌, arith, length-set, get_or-set_other, get_or-set_same, ltb-true, lt-ltb, eqb-true, eq-eqb, ne_eqb}
use Rattle.std.proofs.Math.Option.{none, some}
use Rattle.std.proofs.lemmas.List.{length-replicate, get_or-replicate}
use Rattle.std.proofs.lemmas.Bool.{eqb-false}
use Rattle.queue.specs.Codec.{cases}
use Rattle.queue.specs.paper.Lists.{any?, find}
use Rattle.queue.specs.paper.Parents.{remove, free?, listed, parents_first_value}
use Rattle.queue.specs.read.parents.Counters.{first_one, raise, lower, counted, picks, start, by_counters, Kids, rows_at}

-- how often j is named
abbrev times : ℕ → List ℕ → ℕ
times j [] = 0
times j (k ∷ ks) = cond (eqb j k) 1 0 + times j ks

times_any : (j : ℕ) (ks : List ℕ) → eqb (times j ks) 0 ≡ not (any? (eqb j) ks)
times_any j [] = refl
times_any j (k ∷ ks) = let i = times_any j ks in cases (eqb j k)
    (λ t. rw t (ne_eqb (1 + times j ks) 0 (λ e. omega arith)))
    (λ t. rw t (ap (λ (z : ℕ). eqb z 0) (let z : 0 + times j ks ≡ times j ks = omega arith in z) ∙ i))

-- ---- one table
get_d_less : (cs : List ℕ) (j : ℕ) → get_or (set cs j (get_or cs j 0 - 1)) j 0 ≡ get_or cs j 0 - 1
get_d_less [] j = omega arith
get_d_less (c ∷ cs) zero = refl
get_d_less (c ∷ cs) (suc j) = get_d_less cs j

pub lower_length : (ks cs : List ℕ) → length (lower ks cs) ≡ length cs
unfolding lower
lower_length [] cs = refl
lower_length (k ∷ ks) cs = lower_length ks (set cs k (get_or cs k 0 - 1)) ∙ length-set cs k (get_or cs k 0 - 1)

lower_at : (ks cs : List ℕ) (j : ℕ) → get_or (lower ks cs) j 0 ≡ get_or cs j 0 - times j ks
unfolding lower
lower_at [] cs j = omega arith
lower_at (k ∷ ks) cs j = let i = lower_at ks (set cs k (get_or cs k 0 - 1)) j in cases (eqb j k)
    (λ t. let e = eqb-true j k t in let z = rw (← e) at i in let w = get_d_less cs j in rw t (rw (← e) (omega arith)))
    (λ t. let e = eqb-false j k t in let w = get_or-set_other cs k j (get_or cs k 0 - 1) 0 e in rw t (omega arith))

pub raise_length : (ks cs : List ℕ) → length (raise ks cs) ≡ length cs
unfolding raise
raise_length [] cs = refl
raise_length (k ∷ ks) cs = raise_length ks (set cs k (get_or cs k 0 + 1)) ∙ length-set cs k (get_or cs k 0 + 1)

raise_at : (ks cs : List ℕ) (j : ℕ) → j < length cs → get_or (raise ks cs) j 0 ≡ get_or cs j 0 + times j ks
unfolding raise
raise_at [] cs j h = omega arith
raise_at (k ∷ ks) cs j h = let i = raise_at ks (set cs k (get_or cs k 0 + 1)) j (omega (arith, length-set cs k (get_or cs k 0 + 1))) in cases (eqb j k)
    (λ t. let e = eqb-true j k t in let z = rw (← e) at i in let w = get_or-set_same cs j (get_or cs j 0 + 1) 0 h in rw t (rw (← e) (omega arith)))
    (λ t. let e = eqb-false j k t in let w = get_or-set_other cs k j (get_or cs k 0 + 1) 0 e in rw t (omega arith))

pub counted_length : (kids : ℕ → List ℕ) (i m : ℕ) (cs : List ℕ) → length (counted kids i m cs) ≡ length cs
unfolding counted
counted_length kids i zero cs = refl
counted_length kids i (suc m) cs = counted_length kids (suc i) m (raise (kids i) cs) ∙ raise_length (kids i) cs

-- ---- sums over the rows
abbrev sums : (ℕ → ℕ) → ℕ → ℕ
sums f zero = 0
sums f (suc m) = f 0 + sums (λ i. f (suc i)) m

sums_same : (f g : ℕ → ℕ) (m : ℕ) → ((i : ℕ) → f i ≡ g i) → sums f m ≡ sums g m
sums_same f g zero h = refl
sums_same f g (suc m) h = let z = h 0 in let i = sums_same (λ i. f (suc i)) (λ i. g (suc i)) m (λ i. h (suc i)) in omega arith

counted_at : (kids : ℕ → List ℕ) (i m : ℕ) (cs : List ℕ) (j : ℕ) → j < length cs → get_or (counted kids i m cs) j 0 ≡ get_or cs j 0 + sums (λ k. times j (kids (i + k))) m
unfolding counted
counted_at kids i zero cs j h = omega arith
counted_at kids i (suc m) cs j h =
    let a = counted_at kids (suc i) m (raise (kids i) cs) j (omega (arith, raise_length (kids i) cs)) in
    let b = raise_at (kids i) cs j h in
    let c : times j (kids (i + 0)) ≡ times j (kids i) = ap (λ (z : ℕ). times j (kids z)) (omega arith) in
    let e = sums_same (λ k. times j (kids (suc i + k))) (λ k. times j (kids (i + suc k))) m (λ k. ap (λ (z : ℕ). times j (kids z)) (omega arith)) in
    omega arith

-- over the unlisted
abbrev open_sum : (ℕ → ℕ) → List ℕ → ℕ
open_sum f [] = 0
open_sum f (c ∷ cs) = cond (eqb c 0) 0 (f 0) + open_sum (λ i. f (suc i)) cs

open_set : (f : ℕ → ℕ) (cs : List ℕ) (i : ℕ) → i < length cs → eqb (get_or cs i 0) 0 ≡ false → open_sum f cs ≡ f i + open_sum f (set cs i 0)
open_set f [] i h t = absurd (omega arith)
open_set f (c ∷ cs) zero h t = rw t (omega arith)
open_set f (c ∷ cs) (suc i) h t = let z = open_set (λ i. f (suc i)) cs i (omega arith) t in omega arith

-- two tables that are 0 at the same places
Alike : List ℕ → List ℕ → Type 0
Alike cs ds = (j : ℕ) → j < length cs → eqb (get_or cs j 0) 0 ≡ eqb (get_or ds j 0) 0

open_same : (f : ℕ → ℕ) (cs ds : List ℕ) → length cs ≡ length ds → Alike cs ds → open_sum f cs ≡ open_sum f ds
unfolding Alike
open_same f [] [] e h = refl
open_same f [] (d ∷ ds) e h = absurd (omega arith)
open_same f (c ∷ cs) [] e h = absurd (omega arith)
open_same f (c ∷ cs) (d ∷ ds) e h = let z = h 0 (omega arith) in let i = open_same (λ i. f (suc i)) cs ds (omega arith) (λ j k. h (suc j) (omega arith)) in rw (z, i)

open_all : (f : ℕ → ℕ) (cs : List ℕ) → ((j : ℕ) → j < length cs → eqb (get_or cs j 0) 0 ≡ false) → open_sum f cs ≡ sums f (length cs)
open_all f [] h = refl
open_all f (c ∷ cs) h = let i = open_all (λ i. f (suc i)) cs (λ j k. h (suc j) (omega arith)) in rw (h 0 (omega arith)) (omega arith)

-- the first that holds 1
one_at : (cs : List ℕ) → first_one cs < length cs → get_or cs (first_one cs) 0 ≡ 1
unfolding first_one
one_at [] h = absurd (omega arith)
one_at (c ∷ cs) h = cases (eqb c 1)
    (λ t. let e = eqb-true c 1 t in rw t e)
    (λ t. let k = rw t at h in rw t (one_at cs (omega arith)))

module _ {A : Type 0} where
  -- the unlisted rows
  abbrev kept : List ℕ → List A → List A
  kept [] l = []
  kept (c ∷ cs) [] = []
  kept (c ∷ cs) (a ∷ l) = cond (eqb c 0) (kept cs l) (a ∷ kept cs l)

  kept_same : (cs ds : List ℕ) (l : List A) → length cs ≡ length ds → Alike cs ds → kept cs l ≡ kept ds l
  unfolding Alike
  kept_same [] [] l e h = refl
  kept_same [] (d ∷ ds) l e h = absurd (omega arith)
  kept_same (c ∷ cs) [] l e h = absurd (omega arith)
  kept_same (c ∷ cs) (d ∷ ds) [] e h = refl
  kept_same (c ∷ cs) (d ∷ ds) (a ∷ l) e h = let z = h 0 (omega arith) in let i = kept_same cs ds l (omega arith) (λ j k. h (suc j) (omega arith)) in rw (z, i)

  kept_all : (cs : List ℕ) (l : List A) → length cs ≡ length l → ((j : ℕ) → j < length cs → eqb (get_or cs j 0) 0 ≡ false) → kept cs l ≡ l
  kept_all [] [] e h = refl
  kept_all [] (a ∷ l) e h = absurd (omega arith)
  kept_all (c ∷ cs) [] e h = absurd (omega arith)
  kept_all (c ∷ cs) (a ∷ l) e h = let i = kept_all cs l (omega arith) (λ j k. h (suc j) (omega arith)) in rw (h 0 (omega arith), i)

  -- a sum over the unlisted is 0 exactly where none of them passes
  open_any : (d : A) (p : A → Bool) (f : ℕ → ℕ) (cs : List ℕ) (l : List A) → length cs ≡ length l → ((i : ℕ) → i < length l → eqb (f i) 0 ≡ not (p (get_or l i d)))
      → eqb (open_sum f cs) 0 ≡ not (any? p (kept cs l))
  open_any d p f [] [] e h = refl
  open_any d p f [] (a ∷ l) e h = absurd (omega arith)
  open_any d p f (c ∷ cs) [] e h = absurd (omega arith)
  open_any d p f (c ∷ cs) (a ∷ l) e h =
      let i = open_any d p (λ i. f (suc i)) cs l (omega arith) (λ j k. h (suc j) (omega arith)) in
      let z = h 0 (omega arith) in
      let less : 0 + open_sum (λ i. f (suc i)) cs ≡ open_sum (λ i. f (suc i)) cs = omega arith in
      cases (eqb c 0)
      (λ t. rw (t, less) i)
      (λ t. cases (p a)
      (λ u. let w = eqb-false (f 0) 0 (rw u at z) in rw (t, u) (ne_eqb (f 0 + open_sum (λ i. f (suc i)) cs) 0 (λ q. w (omega arith))))
      (λ u. let w = eqb-true (f 0) 0 (rw u at z) in rw (t, u, w, less) i))

  -- the first unlisted that passes is the first that holds 1
  found : (d : A) (p : A → Bool) (cs : List ℕ) (l : List A) → length cs ≡ length l
      → ((j : ℕ) → j < length l → eqb (get_or cs j 0) 0 ≡ false → eqb (get_or cs j 0) 1 ≡ p (get_or l j d))
      → (find p (kept cs l) ≡ cond (ltb (first_one cs) (length cs)) (some (get_or l (first_one cs) d)) none) × (remove p (kept cs l) ≡ kept (set cs (first_one cs) 0) l)
  unfolding first_one
  found d p [] [] e h = (refl, refl)
  found d p [] (a ∷ l) e h = absurd (omega arith)
  found d p (c ∷ cs) [] e h = absurd (omega arith)
  found d p (c ∷ cs) (a ∷ l) e h =
      let i = found d p cs l (omega arith) (λ j k. h (suc j) (omega arith)) in
      cases (eqb c 1)
      (λ t. let q = eqb-true c 1 t in let u = ne_eqb c 0 (λ z. omega arith) in let w : p a ≡ true = sym (h 0 (omega arith) u) ∙ t in
      rw (t, u, w, lt-ltb 0 (suc (length cs)) (omega arith)) (refl, refl))
      (λ t. let s : ltb (suc (first_one cs)) (suc (length cs)) ≡ ltb (first_one cs) (length cs) = lib.Dec.leb-suc-suc (suc (first_one cs)) (length cs) in cases (eqb c 0)
      (λ u. rw (t, u, s) i)
      (λ u. let w : p a ≡ false = sym (h 0 (omega arith) u) ∙ t in rw (t, u, w, s) (i.0, ap (λ (z : List A). a ∷ z) i.1)))

module _ {A : Type 0} (waits? : A → A → Bool) (l : List A) (d : A) (kids : ℕ → List ℕ) (table : Kids waits? l d kids) where
  -- the unlisted that row j waits for, as the table names them
  abbrev parents : ℕ → List ℕ → ℕ
  parents j cs = open_sum (λ i. times j (kids i)) cs

  -- every counter is right
  pub record Counts (cs : List ℕ) : Type 0 where
    pub size : length cs ≡ length l
    pub right : (j : ℕ) → j < length l → eqb (get_or cs j 0) 0 ≡ false → get_or cs j 0 ≡ 1 + parents j cs

  free_at : (cs : List ℕ) → Counts cs → (j : ℕ) → j < length l → eqb (get_or cs j 0) 0 ≡ false → eqb (get_or cs j 0) 1 ≡ free? waits? (kept cs l) (get_or l j d)
  free_at cs v j h t =
      let z = v.right j h t in
      let i = open_any d (waits? (get_or l j d)) (λ i. times j (kids i)) cs l v.size (λ i k. times_any j (kids i) ∙ ap not (table i j k h)) in
      cases (eqb (parents j cs) 0)
      (λ u. let e = eqb-true (parents j cs) 0 u in eq-eqb (get_or cs j 0) 1 (omega arith) ∙ (sym u ∙ i))
      (λ u. let e = eqb-false (parents j cs) 0 u in ne_eqb (get_or cs j 0) 1 (λ q. e (omega arith)) ∙ (sym u ∙ i))

  module _ (cs : List ℕ) (v : Counts cs) (h : first_one cs < length cs) where
    abbrev next : List ℕ
    next = lower (kids (first_one cs)) (set cs (first_one cs) 0)

    next_size : length next ≡ length cs
    next_size = lower_length (kids (first_one cs)) (set cs (first_one cs) 0) ∙ length-set cs (first_one cs) 0

    alive : eqb (get_or cs (first_one cs) 0) 0 ≡ false
    alive = ne_eqb (get_or cs (first_one cs) 0) 0 (λ e. let z = one_at cs h in omega arith)

    next_at : (j : ℕ) → get_or next j 0 ≡ get_or (set cs (first_one cs) 0) j 0 - times j (kids (first_one cs))
    next_at j = lower_at (kids (first_one cs)) (set cs (first_one cs) 0) j

    -- one that is still unlisted
    still : (j : ℕ) → j < length l → eqb (get_or (set cs (first_one cs) 0) j 0) 0 ≡ false → get_or next j 0 ≡ 1 + parents j (set cs (first_one cs) 0)
    still j k t = cases (eqb j (first_one cs))
        (λ u. let e = eqb-true j (first_one cs) u in let z = get_or-set_same cs (first_one cs) 0 0 h in let w = rw e at t in absurd (eqb-false _ 0 w z))
        (λ u. let e = eqb-false j (first_one cs) u in
        let z = get_or-set_other cs (first_one cs) j 0 0 e in
        let w = v.right j k (rw z at t) in
        let s = open_set (λ i. times j (kids i)) cs (first_one cs) h alive in
        let n = next_at j in
        omega arith)

    alike : Alike (set cs (first_one cs) 0) next
    unfolding Alike
    alike j k = cases (eqb (get_or (set cs (first_one cs) 0) j 0) 0)
        (λ t. let e = eqb-true (get_or (set cs (first_one cs) 0) j 0) 0 t in let n = next_at j in t ∙ sym (eq-eqb (get_or next j 0) 0 (omega arith)))
        (λ t. let s = still j (omega (arith, length-set cs (first_one cs) 0, v.size)) t in t ∙ sym (ne_eqb (get_or next j 0) 0 (λ q. omega arith)))

    same_size : length (set cs (first_one cs) 0) ≡ length next
    same_size = length-set cs (first_one cs) 0 ∙ sym next_size

    next_counts : Counts next
    unfolding Alike
    next_counts = record {
      size = next_size ∙ v.size;
      right = λ j k t. still j k (alike j (omega (arith, length-set cs (first_one cs) 0, v.size)) ∙ t) ∙ ap (λ (z : ℕ). 1 + z) (open_same (λ i. times j (kids i)) (set cs (first_one cs) 0) next same_size alike);
    }

    next_kept : kept (set cs (first_one cs) 0) l ≡ kept next l
    next_kept = kept_same (set cs (first_one cs) 0) next l same_size alike

  pub picks_listed : (n : ℕ) (cs : List ℕ) → Counts cs → rows_at waits? l d (picks kids n cs) ≡ listed waits? n (kept cs l)
  unfolding picks listed
  picks_listed zero cs v = refl
  picks_listed (suc n) cs v =
      let f = found d (free? waits? (kept cs l)) cs l v.size (free_at cs v) in
      cases (ltb (first_one cs) (length cs))
      (λ t. let h = ltb-true (first_one cs) (length cs) t in
      let i = picks_listed n (next cs v h) (next_counts cs v h) in
      rw (t, f.0, f.1, t, next_kept cs v h) (ap (λ (z : List A). get_or l (first_one cs) d ∷ z) i))
      (λ t. rw (t, f.0, t))

  start_at : (j : ℕ) → j < length l → get_or (start kids (length l)) j 0 ≡ 1 + sums (λ i. times j (kids i)) (length l)
  start_at j h =
      let a = counted_at kids 0 (length l) (replicate (length l) 1) j (omega (arith, length-replicate {A = ℕ} (length l) 1)) in
      let b = get_or-replicate {A = ℕ} (length l) j 1 0 h in
      let e = sums_same (λ k. times j (kids (0 + k))) (λ k. times j (kids k)) (length l) (λ k. ap (λ (z : ℕ). times j (kids z)) (omega arith)) in
      omega arith

  start_size : length (start kids (length l)) ≡ length l
  start_size = counted_length kids 0 (length l) (replicate (length l) 1) ∙ length-replicate (length l) 1

  start_alive : (j : ℕ) → j < length (start kids (length l)) → eqb (get_or (start kids (length l)) j 0) 0 ≡ false
  start_alive j h = ne_eqb (get_or (start kids (length l)) j 0) 0 (λ e. let z = start_at j (omega (arith, start_size)) in omega arith)

  pub start_counts : Counts (start kids (length l))
  start_counts = record {
    size = start_size;
    right = λ j h t. start_at j h ∙ ap (λ (z : ℕ). 1 + z) (sym (open_all (λ i. times j (kids i)) (start kids (length l)) start_alive ∙ ap (λ (z : ℕ). sums (λ i. times j (kids i)) z) start_size));
  }

  pub by_counters_law : rows_at waits? l d (by_counters kids (length l)) ≡ parents_first_value waits? l
  by_counters_law = picks_listed (length l) (start kids (length l)) start_counts
      ∙ ap (λ (z : List A). listed waits? (length l) z) (kept_all (start kids (length l)) l start_size start_alive)
