-- What the request asks to be shown, and that its words leave the list no choice.
use Rattle.std.specs.Prelude.{◌≡◌, refl, Bool, true, false, ◌⊎◌, List, [], ◌∷◌, ◌++◌, ℕ, zero, suc, ◌≤◌, length}
use Rattle.std.proofs.Common.{sym, ap, ◌∙◌, inl, inr, ⊎_elim, append_assoc, append-nil, arith}
use Rattle.std.proofs.Math.Option.{none, some}
use Rattle.std.proofs.lemmas.Bool.{not-true, not-false}
use Rattle.queue.specs.Lists.{Pairwise, both, sub_all, sub_pairwise}
use Rattle.queue.specs.bytes.ListLaws.{filter_sub, filter_all, sort_all, sort_apart}
use Rattle.queue.specs.bytes.ReaderLaws.{false_true}
use Rattle.queue.specs.bytes.OrderLaws.{same_self}
use Rattle.queue.specs.theorems.SoundParts.{Before}
use Rattle.queue.specs.theorems.ReconcileKeeps.{Diff, diff_sym, rising_diff}
use Rattle.queue.specs.paper.Records.{Rec, Queue}
use Rattle.queue.specs.paper.Lists.{any?, filter, find}
use Rattle.queue.specs.paper.Reading.{first?, selected?, selected_at}
use Rattle.queue.specs.paper.Parents.{remove, free?, listed, parents_first_value, waits_for?, parents_first_at, In, Once, Fits, ParentsFirst}
use Rattle.queue.specs.read.parents.Laws.{option_cases, in_mid, in_either, in_out, in_back, once_mid, length_mid, fewer, all_in, in_all, apart_once, any_none, any_some, find_none, find_place, in_filter, in_sort}

-- ---- the claims, over any records and any test of who waits for whom

module _ {A : Type 0} (waits? : A → A → Bool) (selected : List A) where
  -- all that a waits for are in x
  abbrev pub Served : List A → A → Type 0
  Served x a = (b : A) → In b selected → waits? a b ≡ true → In b x

  -- "the list holds selected records, none twice, each after all that it waits for"
  pub record Such (l : List A) : Type 0 where
    pub chosen : (a : A) → In a l → In a selected
    pub once : Once l
    pub after : (x y : List A) (a : A) → l ≡ x ++ a ∷ y → Served x a

  -- with x listed, a is "the first, in the old order, of those that wait for nothing unlisted"
  pub record First (x : List A) (a : A) : Type 0 where
    pub before : List A
    pub behind : List A
    pub place : selected ≡ before ++ a ∷ behind
    pub unlisted : In a x → ⊥
    pub served : Served x a
    pub first : (c : A) → In c before → (In c x → ⊥) → Served x c → ⊥

  -- the request's words for the list itself
  pub record ByWords (l : List A) : Type 0 where
    -- "The next one listed is always the first, in the old order, of those that wait for nothing unlisted."
    pub next : (x y : List A) (a : A) → l ≡ x ++ a ∷ y → First x a
    -- "Records that still wait at the end are left off": and no others
    pub off : (a : A) → In a selected → (In a l → ⊥) → Served l a → ⊥

-- ---- their proofs

module _ {A : Type 0} (waits? : A → A → Bool) where
  abbrev rest : List A → List A
  rest u = remove (free? waits? u) u

  -- one is listed: it waits for nothing unlisted, all before it wait for something
  record Step (u : List A) (b : A) (x y : List A) : Type 0 where
    place : u ≡ x ++ b ∷ y
    left : rest u ≡ x ++ y
    free : (c : A) → In c u → waits? b c ≡ false
    waiting : (c : A) → In c x → any? (waits? c) u ≡ true

  step_cases : {X : Type 0} (u : List A) → (find (free? waits? u) u ≡ none → ((c : A) → In c u → any? (waits? c) u ≡ true) → X)
      → ((b : A) → find (free? waits? u) u ≡ some b → (x y : List A) → Step u b x y → X) → X
  step_cases u f g = option_cases (find (free? waits? u) u)
      (λ e. f e (λ c h. not-false (any? (waits? c) u) (find_none (free? waits? u) u e c h)))
      (λ b e. find_place (free? waits? u) u b e (λ x y q r t k. g b e x y (record {
        place = q;
        left = r;
        free = any_none (waits? b) u (not-true (any? (waits? b) u) t);
        waiting = λ c h. not-false (any? (waits? c) u) (k c h);
      })))

  module _ (u : List A) (b : A) (x y : List A) (s : Step u b x y) where
    -- what is left is what was there, without the one listed
    step_back : (c : A) → In c (rest u) → In c u
    step_back c h = rw s.place (in_back c b x y (rw s.left at h))

    step_out : (c : A) → In c u → (c ≡ b) ⊎ In c (rest u)
    step_out c h = rw s.left (in_out c b x y (rw s.place at h))

    step_in : In b u
    step_in = rw s.place (in_mid b x y)

    step_once : Once u → Once (rest u) × (In b (rest u) → ⊥)
    step_once o = rw s.left (once_mid x y b (rw s.place at o))

    step_length : length u ≡ suc (length (rest u))
    step_length = rw (s.left, s.place) (length_mid x y b)

  -- "the list holds selected records"
  listed_in : (n : ℕ) (u : List A) (a : A) → In a (listed waits? n u) → In a u
  unfolding listed
  listed_in zero u a h = absurd h
  listed_in (suc n) u a h = step_cases u
      (λ e k. absurd (rw e at h))
      (λ b e x y s. let m : In a (b ∷ listed waits? n (rest u)) = rw e at h in
      ⊎_elim (λ z. rw z (step_in u b x y s)) (λ m. step_back u b x y s a (listed_in n (rest u) a m)) m)

  -- "none twice"
  listed_once : (n : ℕ) (u : List A) → Once u → Once (listed waits? n u)
  unfolding listed
  listed_once zero u o = tt
  listed_once (suc n) u o = step_cases u
      (λ e k. rw e tt)
      (λ b e x y s. let i = step_once u b x y s o in rw e (λ h. i.1 (listed_in n (rest u) b h), listed_once n (rest u) i.0))

  -- nothing stands in an empty list
  no_place : {X : Type 0} (x y : List A) (a : A) → [] ≡ x ++ a ∷ y → X
  no_place [] y a e = let w : ◌≡◌ {A = ℕ} 0 1 = cc in absurd (omega arith)
  no_place (b ∷ x) y a e = let w : ◌≡◌ {A = ℕ} 0 1 = cc in absurd (omega arith)

  -- a list cut before a, seen in what it came from
  unremoved : {X : Type 0} (d a : A) (x y v w : List A) → x ++ y ≡ v ++ a ∷ w
      → ((v' w' : List A) → x ++ d ∷ y ≡ v' ++ a ∷ w' → ((c : A) → In c v' → (c ≡ d) ⊎ In c v) → X) → X
  unremoved d a [] y v w e k = k (d ∷ v) w (rw e) (λ c h. h)
  unremoved d a (b ∷ x) y [] w e k = let q : b ≡ a = cc in k [] (x ++ d ∷ y) (rw q) (λ c h. absurd h)
  unremoved d a (b ∷ x) y (c ∷ v) w e k =
      let q : b ≡ c = cc in
      let r : x ++ y ≡ v ++ a ∷ w = cc in
      unremoved d a x y v w r (λ v' w' z f. k (c ∷ v') w' (rw (q, z)) (λ g h. ⊎_elim (λ p. inr (inl p)) (λ m. ⊎_elim inl (λ i. inr (inr i)) (f g m)) h))

  -- "always the first, in the old order, of those that wait for nothing unlisted"
  listed_next : (n : ℕ) (u : List A) → Once u → (x y : List A) (a : A) → listed waits? n u ≡ x ++ a ∷ y → First waits? u x a
  unfolding listed
  listed_next zero u o x y a e = no_place x y a e
  listed_next (suc n) u o [] y a e = step_cases u
      (λ f k. no_place [] y a (rw f at e))
      (λ d f v w s. let z : d ∷ listed waits? n (rest u) ≡ a ∷ y = rw f at e in let q : d ≡ a = cc in record {
        before = v;
        behind = w;
        place = rw q at s.place;
        unlisted = λ h. h;
        served = λ b h t. false_true (sym (rw q at (s.free b h)) ∙ t);
        first = λ c h i t. any_some (waits? c) u (s.waiting c h) t;
      })
  listed_next (suc n) u o (c ∷ x) y a e = step_cases u
      (λ f k. no_place (c ∷ x) y a (rw f at e))
      (λ d f v w s. let z : d ∷ listed waits? n (rest u) ≡ c ∷ (x ++ a ∷ y) = rw f at e in let q : d ≡ c = cc in let r : listed waits? n (rest u) ≡ x ++ a ∷ y = cc in
      let p = step_once u d v w s o in
      let i = listed_next n (rest u) p.0 x y a r in
      unremoved d a v w i.before i.behind (sym s.left ∙ i.place) (λ v' w' j k. record {
        before = v';
        behind = w';
        place = s.place ∙ j;
        unlisted = ⊎_elim (λ g. p.1 (same_in d a (q ∙ sym g) (rw i.place (in_mid a i.before i.behind)))) i.unlisted;
        served = λ b h t. ⊎_elim (λ g. inl (g ∙ q)) (λ g. inr (i.served b g t)) (step_out u d v w s b h);
        first = λ b h l m. ⊎_elim (λ g. l (inl (g ∙ q))) (λ g. i.first b g (λ o'. l (inr o'))
            (λ b' h' t. ⊎_elim (λ g'. absurd (p.1 (same_in d b' (q ∙ sym g') h'))) (λ g'. g') (m b' (step_back u d v w s b' h') t))) (k b h);
      }))
    where
      same_in : (d b : A) → d ≡ b → In b (rest u) → In d (rest u)
      same_in d b e h = rw e h

  -- what isn't listed waits for something that isn't listed
  listed_or : {X : Type 0} (n : ℕ) (u : List A) → length u ≤ n → Once u → (a : A) → In a u
      → (In a (listed waits? n u) → X) → ((b : A) → In b u → waits? a b ≡ true → (In b (listed waits? n u) → ⊥) → X) → X
  unfolding listed
  listed_or zero [] m o a h f g = absurd h
  listed_or zero (b ∷ u) m o a h f g = absurd (omega arith)
  listed_or (suc n) u m o a h f g = step_cases u
      (λ e k. any_some (waits? a) u (k a h) (λ b i t. g b i t (λ z. rw e at z)))
      (λ d e x y s. let i = step_once u d x y s o in ⊎_elim
      (λ q. f (rw e (inl q)))
      (λ q. listed_or n (rest u) (omega (arith, step_length u d x y s)) i.0 a q
      (λ z. f (rw e (inr z)))
      (λ b j t z. g b (step_back u d x y s b j) t (λ p. let w : In b (d ∷ listed waits? n (rest u)) = rw e at p in ⊎_elim (λ r. i.1 (rw r at j)) z w)))
      (step_out u d x y s a h))

  module _ (selected : List A) (o : Once selected) where
    -- the list is by the words ..
    pub by_words : ByWords waits? selected (parents_first_value waits? selected)
    by_words = record {
      next = listed_next (length selected) selected o;
      off = λ a h k s. listed_or (length selected) selected (omega arith) o a h k (λ b i t z. z (s b i t));
    }

    pub such : Such waits? selected (parents_first_value waits? selected)
    such = record {
      chosen = listed_in (length selected) selected;
      once = listed_once (length selected) selected o;
      after = λ x y a e. (by_words.next x y a e).served;
    }

    -- along such a list each of its records is listed
    within : (l : List A) → Such waits? selected l → (x y : List A) → l ≡ x ++ y → ((a : A) → In a x → In a (parents_first_value waits? selected))
        → (a : A) → In a l → In a (parents_first_value waits? selected)
    within l f x [] e h a i = h a (rw (append-nil x) at (rw e at i))
    within l f x (b ∷ y) e h c m = within l f (x ++ b ∷ []) y (e ∙ sym (append_assoc x (b ∷ []) y))
        (λ a i. in_either a x (b ∷ []) i (h a) (λ j. ⊎_elim (λ q. rw q now) absurd j)) c m
      where
        now : In b (parents_first_value waits? selected)
        now = listed_or (length selected) selected (omega arith) o b (f.chosen b (rw e (in_mid b x y))) (λ z. z)
            (λ c i t k. absurd (k (h c (f.after x y b e c i t))))

    -- "every other such list has at most as many"
    pub most : (other : List A) → Such waits? selected other → length other ≤ length (parents_first_value waits? selected)
    most l f = fewer l (parents_first_value waits? selected) f.once (within l f [] l refl (λ a h. absurd h))

  -- ---- .. and no other list is
  apart_or : {X : Type 0} (a b : A) (v w v' w' : List A) → v ++ a ∷ w ≡ v' ++ b ∷ w' → (a ≡ b → X) → (In a v' → X) → (In b v → X) → X
  apart_or a b [] w [] w' e f g h = f cc
  apart_or a b [] w (c ∷ v') w' e f g h = g (inl cc)
  apart_or a b (c ∷ v) w [] w' e f g h = h (inl (let q : c ≡ b = cc in sym q))
  apart_or a b (c ∷ v) w (c' ∷ v') w' e f g h = let q : v ++ a ∷ w ≡ v' ++ b ∷ w' = cc in apart_or a b v w v' w' q f (λ i. g (inr i)) (λ i. h (inr i))

  one_first : (selected x : List A) (a b : A) → First waits? selected x a → First waits? selected x b → a ≡ b
  one_first selected x a b p q = apart_or a b p.before p.behind q.before q.behind (sym p.place ∙ q.place) (λ e. e)
      (λ i. absurd (q.first a i p.unlisted p.served))
      (λ i. absurd (p.first b i q.unlisted q.served))

  module _ (selected l m : List A) (p : ByWords waits? selected l) (q : ByWords waits? selected m) where
    -- with x listed, one goes on and the other ends
    no_end : (k : List A) → ByWords waits? selected k → (x : List A) (b : A) → k ≡ x ++ [] → First waits? selected x b → ⊥
    no_end k c x b e f = let z : k ≡ x = e ∙ append-nil x in c.off b (rw f.place (in_mid b f.before f.behind)) (rw z f.unlisted) (rw z f.served)

    alike : (x r s : List A) → l ≡ x ++ r → m ≡ x ++ s → r ≡ s
    alike x [] [] e f = refl
    alike x [] (b ∷ s) e f = absurd (no_end l p x b e (q.next x s b f))
    alike x (a ∷ r) [] e f = absurd (no_end m q x a f (p.next x r a e))
    alike x (a ∷ r) (b ∷ s) e f =
        let z = one_first selected x a b (p.next x r a e) (q.next x s b f) in
        let i = alike (x ++ a ∷ []) r s (e ∙ sym (append_assoc x (a ∷ []) r)) (f ∙ (ap (λ (c : A). x ++ c ∷ s) (sym z) ∙ sym (append_assoc x (a ∷ []) s))) in
        cc

    pub only : l ≡ m
    only = alike [] l m refl refl

-- ---- a queue's records

-- the selected records have different ids
pub selected_differ : (now height : ℕ) (q : Queue) → Pairwise Before q.recs → Pairwise Diff (selected_at now height q)
selected_differ now height q h =
    sort_apart first? Diff diff_sym (filter (selected? now height) q.recs) (sub_pairwise Diff (filter_sub (selected? now height) q.recs) (rising_diff q.recs h))

pub selected_once : (now height : ℕ) (q : Queue) → Pairwise Before q.recs → Once (selected_at now height q)
selected_once now height q h = apart_once Diff (λ r e. false_true (sym e ∙ same_self r.id)) (selected_at now height q) (selected_differ now height q h)

module _ (now height : ℕ) (q : Queue) where
  selected_in : (r : Rec) → In r (selected_at now height q) → In r q.recs × (selected? now height r ≡ true)
  selected_in r = all_in (λ r. In r q.recs × (selected? now height r ≡ true)) (selected_at now height q)
      (sort_all first? (λ r. In r q.recs × (selected? now height r ≡ true)) (filter (selected? now height) q.recs)
      (both (λ r. In r q.recs) (λ r. selected? now height r ≡ true) (filter (selected? now height) q.recs)
      (sub_all (λ r. In r q.recs) (filter_sub (selected? now height) q.recs) (in_all (λ r. In r q.recs) q.recs (λ r i. i)))
      (filter_all (selected? now height) q.recs))) r

  in_selected : (r : Rec) → In r q.recs → selected? now height r ≡ true → In r (selected_at now height q)
  in_selected r i t = in_sort first? (filter (selected? now height) q.recs) r (in_filter (selected? now height) q.recs r i t)

  fits_such : (l : List Rec) → Fits now height q l → Such waits_for? (selected_at now height q) l
  fits_such l f = record {
    chosen = λ r i. let z = f.chosen r i in in_selected r z.0 z.1;
    once = f.once;
    after = λ x y r e p i t. let z = selected_in p i in f.after x y r p e z.0 z.1 t;
  }

  such_fits : (l : List Rec) → Such waits_for? (selected_at now height q) l → Fits now height q l
  such_fits l f = record {
    chosen = λ r i. selected_in r (f.chosen r i);
    once = f.once;
    after = λ x y r p e i s t. f.after x y r e p (in_selected p i s) t;
  }

-- "Show that the list holds selected records, none twice, each after all that it waits for, and that every other such list has at
-- most as many.": of every queue whose ids strictly rise
pub parents_first : (now height : ℕ) (q : Queue) → Pairwise Before q.recs → ParentsFirst now height q
parents_first now height q h =
    let o = selected_once now height q h in
    record {
      fits = such_fits now height q (parents_first_at now height q) (such waits_for? (selected_at now height q) o);
      most = λ other f. most waits_for? (selected_at now height q) o other (fits_such now height q other f);
    }

-- the call's list is by the words, and `only` says that no other is
pub parents_first_words : (now height : ℕ) (q : Queue) → Pairwise Before q.recs → ByWords waits_for? (selected_at now height q) (parents_first_at now height q)
parents_first_words now height q h = by_words waits_for? (selected_at now height q) (selected_once now height q h)
