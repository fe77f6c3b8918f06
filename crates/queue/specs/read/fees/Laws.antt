-- Laws of lists that the search for the best fees is proved with.
use Rattle.std.specs.Prelude.{◌≡◌, refl, Bool, List, [], ◌∷◌, ◌++◌, ℕ, zero, suc, ◌-◌, ◌≤◌, leb, length, take, drop}
use Rattle.std.proofs.Common.{ap, arith, le-leb}
use Rattle.queue.specs.Codec.{cases, All}
use Rattle.queue.specs.Lists.{Sub, done, keep, skip}
use Rattle.queue.specs.paper.Lists.{map, filter, total}

module _ {A : Type 0} where
  pub sub_none : (l : List A) → Sub [] l
  sub_none [] = done
  sub_none (a ∷ l) = skip a (sub_none l)

  pub sub_take : (n : ℕ) (l : List A) → Sub (take n l) l
  sub_take zero l = sub_none l
  sub_take (suc n) [] = done
  sub_take (suc n) (a ∷ l) = keep a (sub_take n l)

  pub all_left : (P : A → Type 0) (s t : List A) → All P (s ++ t) → All P s
  all_left P [] t h = tt
  all_left P (a ∷ s) t h = (h.0, all_left P s t h.1)

  pub all_right : (P : A → Type 0) (s t : List A) → All P (s ++ t) → All P t
  all_right P [] t h = h
  all_right P (a ∷ s) t h = all_right P s t h.1

  pub all_take : (P : A → Type 0) (n : ℕ) (l : List A) → All P l → All P (take n l)
  all_take P zero l h = tt
  all_take P (suc n) [] h = tt
  all_take P (suc n) (a ∷ l) h = (h.0, all_take P n l h.1)

  pub all_mono : (P Q : A → Type 0) → ((a : A) → P a → Q a) → (l : List A) → All P l → All Q l
  all_mono P Q k [] h = tt
  all_mono P Q k (a ∷ l) h = (k a h.0, all_mono P Q k l h.1)

  pub filter_append : (p : A → Bool) (s t : List A) → filter p (s ++ t) ≡ filter p s ++ filter p t
  filter_append p [] t = refl
  filter_append p (a ∷ s) t = cases (p a)
      (λ e. rw e (ap (λ (x : List A). a ∷ x) (filter_append p s t)))
      (λ e. rw e (filter_append p s t))

  -- the first n of two lists in a row
  pub take_append : (n : ℕ) (s t : List A) → take n (s ++ t) ≡ take n s ++ take (n - length s) t
  take_append zero s t = rw (let z : 0 - length s ≡ 0 = omega arith in z)
  take_append (suc n) [] t = rw (let z : suc n - 0 ≡ suc n = omega arith in z)
  take_append (suc n) (a ∷ s) t = rw (let z : suc n - suc (length s) ≡ n - length s = omega arith in z) (ap (λ (x : List A). a ∷ x) (take_append n s t))

  pub drop_append : (n : ℕ) (s t : List A) → drop n (s ++ t) ≡ drop n s ++ drop (n - length s) t
  drop_append zero s t = rw (let z : 0 - length s ≡ 0 = omega arith in z)
  drop_append (suc n) [] t = rw (let z : suc n - 0 ≡ suc n = omega arith in z)
  drop_append (suc n) (a ∷ s) t = rw (let z : suc n - suc (length s) ≡ n - length s = omega arith in z) (drop_append n s t)

  -- the first m are the first n and some more
  pub take_more : (n m : ℕ) (l : List A) → n ≤ m → take m l ≡ take n l ++ drop n (take m l)
  take_more zero m l h = refl
  take_more (suc n) zero l h = absurd (omega arith)
  take_more (suc n) (suc m) [] h = refl
  take_more (suc n) (suc m) (a ∷ l) h = ap (λ (x : List A). a ∷ x) (take_more n m l (omega arith))

  -- a sublist whose sizes fit together has only elements that fit singly
  pub sub_fits : (size fee : A → ℕ) (left : ℕ) {s l : List A} → Sub s l → total size s ≤ left
      → total fee s ≤ total fee (filter (λ a. leb (size a) left) l)
  sub_fits size fee left done h = omega arith
  sub_fits size fee left (keep a {s = s} {l = l} u) h = let i = sub_fits size fee left u (omega arith) in
      rw (le-leb (size a) left (omega arith)) (omega arith)
  sub_fits size fee left (skip a {l = l} u) h = let i = sub_fits size fee left u h in cases (leb (size a) left)
      (λ t. rw t (omega arith))
      (λ t. rw t i)

module _ {A B : Type 0} (f : A → B) where
  pub length_map : (l : List A) → length (map f l) ≡ length l
  length_map [] = refl
  length_map (a ∷ l) = ap suc (length_map l)

  pub take_map : (n : ℕ) (l : List A) → take n (map f l) ≡ map f (take n l)
  take_map zero l = refl
  take_map (suc n) [] = refl
  take_map (suc n) (a ∷ l) = ap (λ (x : List B). f a ∷ x) (take_map n l)

  pub drop_map : (n : ℕ) (l : List A) → drop n (map f l) ≡ map f (drop n l)
  drop_map zero l = refl
  drop_map (suc n) [] = refl
  drop_map (suc n) (a ∷ l) = drop_map n l

  pub filter_map : (p : B → Bool) (l : List A) → filter p (map f l) ≡ map f (filter (λ a. p (f a)) l)
  filter_map p [] = refl
  filter_map p (a ∷ l) = cases (p (f a))
      (λ e. rw e (ap (λ (x : List B). f a ∷ x) (filter_map p l)))
      (λ e. rw e (filter_map p l))

  pub all_map : (P : B → Type 0) (l : List A) → All (λ a. P (f a)) l → All P (map f l)
  all_map P [] h = tt
  all_map P (a ∷ l) h = (h.0, all_map P l h.1)

  pub map_all : (P : B → Type 0) (l : List A) → All P (map f l) → All (λ a. P (f a)) l
  map_all P [] h = tt
  map_all P (a ∷ l) h = (h.0, map_all P l h.1)
