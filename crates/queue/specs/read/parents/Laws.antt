-- Laws of membership, of lists without repeats, and of the first that passes.
use Rattle.std.specs.Prelude.{◌≡◌, refl, Bool, true, false, ◌⊎◌, List, [], ◌∷◌, ◌++◌, ℕ, suc, ◌≤◌, length}
use Rattle.std.proofs.Math.Option.{Option, none, some}
use Rattle.std.proofs.Common.{inl, inr, ⊎_elim, arith, length-append}
use Rattle.queue.specs.Codec.{cases, cond_cases, All}
use Rattle.queue.specs.Lists.{Pairwise}
use Rattle.queue.specs.bytes.ReaderLaws.{false_true}
use Rattle.queue.specs.bytes.OrderLaws.{or_false, or_true}
use Rattle.queue.specs.paper.Lists.{any?, filter, find, insert, sort}
use Rattle.queue.specs.paper.Parents.{remove, In, Once}

module _ {A : Type 0} where
  pub option_cases : {X : Type 0} (o : Option A) → (o ≡ none → X) → ((a : A) → o ≡ some a → X) → X
  option_cases none f g = f refl
  option_cases (some a) f g = g a refl

  -- ---- membership
  pub in_mid : (a : A) (x y : List A) → In a (x ++ a ∷ y)
  in_mid a [] y = inl refl
  in_mid a (b ∷ x) y = inr (in_mid a x y)

  pub in_left : (a : A) (x y : List A) → In a x → In a (x ++ y)
  in_left a [] y h = absurd h
  in_left a (b ∷ x) y (inl e) = inl e
  in_left a (b ∷ x) y (inr h) = inr (in_left a x y h)

  pub in_right : (a : A) (x y : List A) → In a y → In a (x ++ y)
  in_right a [] y h = h
  in_right a (b ∷ x) y h = inr (in_right a x y h)

  pub in_either : {X : Type 0} (a : A) (x y : List A) → In a (x ++ y) → (In a x → X) → (In a y → X) → X
  in_either a [] y h f g = g h
  in_either a (b ∷ x) y (inl e) f g = f (inl e)
  in_either a (b ∷ x) y (inr h) f g = in_either a x y h (λ k. f (inr k)) g

  -- one taken out
  pub in_out : (b a : A) (x y : List A) → In b (x ++ a ∷ y) → (b ≡ a) ⊎ In b (x ++ y)
  in_out b a x y h = in_either b x (a ∷ y) h (λ k. inr (in_left b x y k)) (λ k. ⊎_elim inl (λ m. inr (in_right b x y m)) k)

  pub in_back : (b a : A) (x y : List A) → In b (x ++ y) → In b (x ++ a ∷ y)
  in_back b a x y h = in_either b x y h (in_left b x (a ∷ y)) (λ k. in_right b x (a ∷ y) (inr k))

  pub once_mid : (x y : List A) (a : A) → Once (x ++ a ∷ y) → Once (x ++ y) × (In a (x ++ y) → ⊥)
  once_mid [] y a h = (h.1, h.0)
  once_mid (b ∷ x) y a h =
      let i = once_mid x y a h.1 in
      ((λ k. h.0 (in_back b a x y k), i.0), λ k. ⊎_elim (λ q. h.0 (rw (← q) (in_mid a x y))) i.1 k)

  pub length_mid : (x y : List A) (a : A) → length (x ++ a ∷ y) ≡ suc (length (x ++ y))
  length_mid x y a = simp length-append (omega arith)

  in_place : {X : Type 0} (a : A) (l : List A) → In a l → ((x y : List A) → l ≡ x ++ a ∷ y → X) → X
  in_place a [] h k = absurd h
  in_place a (b ∷ l) (inl e) k = k [] l (rw e)
  in_place a (b ∷ l) (inr h) k = in_place a l h (λ x y u. k (b ∷ x) y (rw u))

  -- a list without repeats inside another isn't longer
  pub fewer : (l m : List A) → Once l → ((a : A) → In a l → In a m) → length l ≤ length m
  fewer [] m o h = omega arith
  fewer (a ∷ l) m o h = in_place a m (h a (inl refl)) (λ x y e.
      let i = fewer l (x ++ y) o.1 (λ b k. ⊎_elim (λ q. absurd (o.0 (rw q at k))) (λ w. w) (in_out b a x y (rw e at (h b (inr k))))) in
      rw e (omega (arith, length_mid x y a)))

  -- ---- membership and `All`, `Pairwise`
  pub all_in : (P : A → Type 0) (l : List A) → All P l → (a : A) → In a l → P a
  all_in P [] h a i = absurd i
  all_in P (b ∷ l) h a (inl e) = rw e h.0
  all_in P (b ∷ l) h a (inr i) = all_in P l h.1 a i

  pub in_all : (P : A → Type 0) (l : List A) → ((a : A) → In a l → P a) → All P l
  in_all P [] f = tt
  in_all P (a ∷ l) f = (f a (inl refl), in_all P l (λ b i. f b (inr i)))

  -- different elements make a list without repeats
  pub apart_once : (R : A → A → Type 0) → ((a : A) → R a a → ⊥) → (l : List A) → Pairwise R l → Once l
  apart_once R n [] h = tt
  apart_once R n (a ∷ l) h = (λ i. n a (all_in (R a) l h.0 a i), apart_once R n l h.1)

  -- a relation that goes both ways, of two elements of a list
  pairwise_in : (R : A → A → Type 0) → ((a b : A) → R a b → R b a) → (l : List A) → Pairwise R l → (a b : A) → In a l → In b l → (a ≡ b) ⊎ R a b
  pairwise_in R sy [] h a b i j = absurd i
  pairwise_in R sy (c ∷ l) h a b (inl e) (inl f) = inl (rw (e, f))
  pairwise_in R sy (c ∷ l) h a b (inl e) (inr j) = inr (rw e (all_in (R c) l h.0 b j))
  pairwise_in R sy (c ∷ l) h a b (inr i) (inl f) = inr (rw f (sy c a (all_in (R c) l h.0 a i)))
  pairwise_in R sy (c ∷ l) h a b (inr i) (inr j) = pairwise_in R sy l h.1 a b i j

  -- and of the elements of a list without repeats inside it
  pub inside_pairwise : (R : A → A → Type 0) → ((a b : A) → R a b → R b a) → (l : List A) → Pairwise R l → (m : List A) → Once m → ((a : A) → In a m → In a l) → Pairwise R m
  inside_pairwise R sy l h [] o f = tt
  inside_pairwise R sy l h (a ∷ m) o f = (
    in_all (R a) m (λ b i. ⊎_elim (λ e. absurd (o.0 (rw e i))) (λ r. r) (pairwise_in R sy l h a b (f a (inl refl)) (f b (inr i)))),
    inside_pairwise R sy l h m o.1 (λ b i. f b (inr i)),
  )

  -- ---- some pass, or none
  pub any_none : (p : A → Bool) (l : List A) → any? p l ≡ false → (a : A) → In a l → p a ≡ false
  any_none p [] e a h = absurd h
  any_none p (b ∷ l) e a h = let z = or_false (p b) (any? p l) e in ⊎_elim (λ q. rw q z.0) (any_none p l z.1 a) h

  pub any_some : {X : Type 0} (p : A → Bool) (l : List A) → any? p l ≡ true → ((a : A) → In a l → p a ≡ true → X) → X
  any_some p [] e k = false_true e
  any_some p (b ∷ l) e k = or_true (p b) (any? p l) e (k b (inl refl)) (λ _ t. any_some p l t (λ a h. k a (inr h)))

  -- ---- the first that passes
  pub find_none : (p : A → Bool) (l : List A) → find p l ≡ none → (a : A) → In a l → p a ≡ false
  find_none p [] e a h = absurd h
  find_none p (b ∷ l) e a h = cond_cases (p b) (some b) (find p l) none e
      (λ t z. let w : ◌≡◌ {A = ℕ} 0 1 = cc in absurd (omega arith))
      (λ t z. ⊎_elim (λ q. rw q t) (find_none p l z a) h)

  -- where it stands: all before it fail
  pub find_place : {X : Type 0} (p : A → Bool) (l : List A) (a : A) → find p l ≡ some a
      → ((x y : List A) → l ≡ x ++ a ∷ y → remove p l ≡ x ++ y → p a ≡ true → ((c : A) → In c x → p c ≡ false) → X) → X
  find_place p [] a e k = let w : ◌≡◌ {A = ℕ} 0 1 = cc in absurd (omega arith)
  find_place p (b ∷ l) a e k = cond_cases (p b) (some b) (find p l) (some a) e
      (λ t z. let q : b ≡ a = cc in k [] l (rw q) (rw t) (rw (← q) t) (λ c h. absurd h))
      (λ t z. find_place p l a z (λ x y u v w f. k (b ∷ x) y (rw u) (rw (t, v)) w (λ c h. ⊎_elim (λ q. rw q t) (f c) h)))

  -- ---- those that pass, sorted
  pub in_filter : (p : A → Bool) (l : List A) (a : A) → In a l → p a ≡ true → In a (filter p l)
  in_filter p [] a h t = absurd h
  in_filter p (b ∷ l) a (inl e) t = let z : p b ≡ true = rw e at t in rw z (inl e)
  in_filter p (b ∷ l) a (inr h) t = let i = in_filter p l a h t in cases (p b) (λ u. rw u (inr i)) (λ u. rw u i)

  in_insert : (lt : A → A → Bool) (x : A) (l : List A) (a : A) → (a ≡ x) ⊎ In a l → In a (insert lt x l)
  in_insert lt x [] a h = h
  in_insert lt x (b ∷ l) a h = cases (lt x b)
      (λ u. rw u h)
      (λ u. rw u (⊎_elim (λ e. inr (in_insert lt x l a (inl e))) (λ i. ⊎_elim inl (λ m. inr (in_insert lt x l a (inr m))) i) h))

  pub in_sort : (lt : A → A → Bool) (l : List A) (a : A) → In a l → In a (sort lt l)
  in_sort lt [] a h = h
  in_sort lt (b ∷ l) a h = in_insert lt b (sort lt l) a (⊎_elim inl (λ i. inr (in_sort lt l a i)) h)
