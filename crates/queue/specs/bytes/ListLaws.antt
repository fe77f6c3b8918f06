-- Laws of the paper's list functions: map, filter, find, insert, sort, count, total.
use Rattle.std.specs.Prelude.{◌≡◌, refl, Bool, true, false, cond, not, ◌&&◌, List, [], ◌∷◌, ℕ, ◌+◌, ◌≤◌, length, ◌≢◌}
use Rattle.std.proofs.Common.{sym, ◌∙◌, arith}
use Rattle.std.proofs.Math.Option.{some}
use Rattle.queue.specs.Codec.{cases, cond_cases, All}
use Rattle.queue.specs.Lists.{Pairwise, Sub, done, keep, skip, all_map}
use Rattle.queue.specs.bytes.ReaderLaws.{false_true}
use Rattle.queue.specs.paper.Lists.{one, total, count, filter, find, insert, sort, map}

pub and_false : (a : Bool) → (a && false) ≡ false
and_false true = refl
and_false false = refl

pub one_le : (a : Bool) → one a ≤ 1
one_le true = omega arith
one_le false = omega arith

module _ {A : Type 0} where
  pub all_every : (P : A → Type 0) → ((a : A) → P a) → (l : List A) → All P l
  all_every P f [] = tt
  all_every P f (a ∷ l) = (f a, all_every P f l)

  pub pairwise_with : (P : A → Type 0) (R S : A → A → Type 0) → ((a b : A) → P a → P b → R a b → S a b) → (l : List A) → All P l → Pairwise R l → Pairwise S l
  pairwise_with P R S k [] p r = tt
  pairwise_with P R S k (a ∷ l) p r = (go l p.1 r.0, pairwise_with P R S k l p.1 r.1)
    where
      go : (l : List A) → All P l → All (R a) l → All (S a) l
      go [] q h = tt
      go (b ∷ l) q h = (k a b p.0 q.0 h.0, go l q.1 h.1)

  pub all_with : (P Q S : A → Type 0) → ((a : A) → P a → Q a → S a) → (l : List A) → All P l → All Q l → All S l
  all_with P Q S k [] p q = tt
  all_with P Q S k (a ∷ l) p q = (k a p.0 q.0, all_with P Q S k l p.1 q.1)

  pub filter_sub : (p : A → Bool) (l : List A) → Sub (filter p l) l
  filter_sub p [] = done
  filter_sub p (a ∷ l) = cases (p a) (λ t. rw t (keep a (filter_sub p l))) (λ t. rw t (skip a (filter_sub p l)))

  pub filter_all : (p : A → Bool) (l : List A) → All (λ a. p a ≡ true) (filter p l)
  filter_all p [] = tt
  filter_all p (a ∷ l) = cases (p a) (λ t. rw t (t, filter_all p l)) (λ t. rw t (filter_all p l))

  -- the sum over those that pass
  pub filter_total : (p : A → Bool) (f : A → ℕ) (l : List A) → total f (filter p l) ≡ total (λ a. cond (p a) (f a) 0) l
  filter_total p f [] = refl
  filter_total p f (a ∷ l) = let i = filter_total p f l in cases (p a) (λ t. rw t (omega arith)) (λ t. rw t (omega arith))

  pub total_with : (P : A → Type 0) (f g : A → ℕ) → ((a : A) → P a → f a ≤ g a) → (l : List A) → All P l → total f l ≤ total g l
  total_with P f g k [] h = omega arith
  total_with P f g k (a ∷ l) h = let i = total_with P f g k l h.1 in let j = k a h.0 in omega arith

  pub total_le : (f g : A → ℕ) → ((a : A) → f a ≤ g a) → (l : List A) → total f l ≤ total g l
  total_le f g k l = total_with (λ a. Unit {0}) f g (λ a _. k a) l (all_every (λ a. Unit {0}) (λ a. tt) l)

  pub total_eq : (f g : A → ℕ) → ((a : A) → f a ≡ g a) → (l : List A) → total f l ≡ total g l
  total_eq f g k [] = refl
  total_eq f g k (a ∷ l) = let i = total_eq f g k l in let j = k a in omega arith

  pub total_plus : (f g k : A → ℕ) → ((a : A) → f a ≡ g a + k a) → (l : List A) → total f l ≡ total g l + total k l
  total_plus f g k h [] = refl
  total_plus f g k h (a ∷ l) = let i = total_plus f g k h l in let j = h a in omega arith

  pub total_zero : (f : A → ℕ) → ((a : A) → f a ≡ 0) → (l : List A) → total f l ≡ 0
  total_zero f h [] = refl
  total_zero f h (a ∷ l) = let i = total_zero f h l in let j = h a in omega arith

  -- no two pass: at most one
  pub count_one : (p : A → Bool) (l : List A) → Pairwise (λ a b. p a ≡ true → p b ≢ true) l → count p l ≤ 1
  count_one p [] h = omega arith
  count_one p (a ∷ l) h = cases (p a)
      (λ t. let z = none l (all_map l (λ b k. k t) h.0) in rw t (omega arith))
      (λ t. let i = count_one p l h.1 in rw t (omega arith))
    where
      none : (l : List A) → All (λ b. p b ≢ true) l → count p l ≡ 0
      none [] h = refl
      none (b ∷ l) h = cases (p b) (λ t. absurd (h.0 t)) (λ t. let i = none l h.1 in rw t (omega arith))

  pub count_length : (p : A → Bool) (l : List A) → length l ≡ count p l + count (λ a. not (p a)) l
  count_length p [] = refl
  count_length p (a ∷ l) = let i = count_length p l in cases (p a) (λ t. rw t (omega arith)) (λ t. rw t (omega arith))

  pub length_total : (l : List A) → length l ≡ total (λ a. 1) l
  length_total [] = refl
  length_total (a ∷ l) = let i = length_total l in omega arith

  pub filter_length : (p : A → Bool) (l : List A) → length (filter p l) ≡ count p l
  filter_length p [] = refl
  filter_length p (a ∷ l) = let i = filter_length p l in cases (p a) (λ t. rw t (omega arith)) (λ t. rw t (omega arith))

  pub find_all : (p : A → Bool) (P : A → Type 0) (l : List A) (x : A) → find p l ≡ some x → All P l → P x × (p x ≡ true)
  find_all p P [] x e h = let z : ◌≡◌ {A = ℕ} 0 1 = cc in absurd (omega arith)
  find_all p P (a ∷ l) x e h = cond_cases (p a) (some a) (find p l) (some x) e
      (λ t e'. let q : a ≡ x = cc in rw (← q) (h.0, t))
      (λ t e'. find_all p P l x e' h.1)

  -- the one that is found is the only one
  pub find_only : (p : A → Bool) (l : List A) → Pairwise (λ a b. p a ≡ true → p b ≢ true) l → (x : A) → find p l ≡ some x → All (λ a. p a ≡ true → a ≡ x) l
  find_only p [] h x e = tt
  find_only p (a ∷ l) h x e = cond_cases (p a) (some a) (find p l) (some x) e
      (λ t e'. let q : a ≡ x = cc in (λ u. q, all_map l (λ b k u. absurd (k t u)) h.0))
      (λ t e'. (λ u. false_true (sym t ∙ u), find_only p l h.1 x e'))

  pub find_count : (p : A → Bool) (l : List A) (x : A) → find p l ≡ some x → 1 ≤ count p l
  find_count p [] x e = let z : ◌≡◌ {A = ℕ} 0 1 = cc in absurd (omega arith)
  find_count p (a ∷ l) x e = cond_cases (p a) (some a) (find p l) (some x) e
      (λ t e'. rw t (omega arith))
      (λ t e'. let i = find_count p l x e' in omega arith)

  -- a record by record change
  pub map_all : (P Q : A → Type 0) (h : A → A) → ((a : A) → P a → Q (h a)) → (l : List A) → All P l → All Q (map h l)
  map_all P Q h k [] p = tt
  map_all P Q h k (a ∷ l) p = (k a p.0, map_all P Q h k l p.1)

  pub map_pairwise : (P : A → Type 0) (R S : A → A → Type 0) (h : A → A) → ((a b : A) → P a → P b → R a b → S (h a) (h b)) → (l : List A) → All P l → Pairwise R l → Pairwise S (map h l)
  map_pairwise P R S h k [] p r = tt
  map_pairwise P R S h k (a ∷ l) p r = (go l p.1 r.0, map_pairwise P R S h k l p.1 r.1)
    where
      go : (l : List A) → All P l → All (R a) l → All (S (h a)) (map h l)
      go [] q x = tt
      go (b ∷ l) q x = (k a b p.0 q.0 x.0, go l q.1 x.1)

  pub map_total : (P : A → Type 0) (f g : A → ℕ) (h : A → A) → ((a : A) → P a → f (h a) ≡ g a) → (l : List A) → All P l → total f (map h l) ≡ total g l
  map_total P f g h k [] p = refl
  map_total P f g h k (a ∷ l) p = let i = map_total P f g h k l p.1 in let j = k a p.0 in omega arith

  pub map_total_le : (P : A → Type 0) (f g : A → ℕ) (h : A → A) → ((a : A) → P a → f (h a) ≤ g a) → (l : List A) → All P l → total f (map h l) ≤ total g l
  map_total_le P f g h k [] p = omega arith
  map_total_le P f g h k (a ∷ l) p = let i = map_total_le P f g h k l p.1 in let j = k a p.0 in omega arith

  module _ (lt : A → A → Bool) where
    pub insert_all : (P : A → Type 0) (x : A) (l : List A) → P x → All P l → All P (insert lt x l)
    insert_all P x [] k h = (k, tt)
    insert_all P x (a ∷ l) k h = cases (lt x a)
        (λ t. rw t (k, h))
        (λ t. rw t (h.0, insert_all P x l k h.1))

    pub insert_total : (f : A → ℕ) (x : A) (l : List A) → total f (insert lt x l) ≡ f x + total f l
    insert_total f x [] = refl
    insert_total f x (a ∷ l) = let i = insert_total f x l in cases (lt x a)
        (λ t. rw t)
        (λ t. rw t (omega arith))

    -- a relation that goes both ways
    pub insert_apart : (R : A → A → Type 0) → ((a b : A) → R a b → R b a) → (x : A) (l : List A) → All (R x) l → Pairwise R l → Pairwise R (insert lt x l)
    insert_apart R sy x [] k h = (tt, tt)
    insert_apart R sy x (a ∷ l) k h = cases (lt x a)
        (λ t. rw t (k, h))
        (λ t. rw t (insert_all (R a) x l (sy x a k.0) h.0, insert_apart R sy x l k.1 h.1))

    -- the order itself
    pub insert_rising : ((a b c : A) → lt a b ≡ true → lt b c ≡ true → lt a c ≡ true) → (x : A) (l : List A)
        → All (λ a. lt x a ≡ false → lt a x ≡ true) l → Pairwise (λ a b. lt a b ≡ true) l → Pairwise (λ a b. lt a b ≡ true) (insert lt x l)
    insert_rising tr x [] k h = (tt, tt)
    insert_rising tr x (a ∷ l) k h = cases (lt x a)
        (λ t. rw t ((t, all_map l (λ b u. tr x a b t u) h.0), h))
        (λ t. rw t (insert_all (λ b. lt a b ≡ true) x l (k.0 t) h.0, insert_rising tr x l k.1 h.1))

    pub sort_all : (P : A → Type 0) (l : List A) → All P l → All P (sort lt l)
    sort_all P [] h = tt
    sort_all P (a ∷ l) h = insert_all P a (sort lt l) h.0 (sort_all P l h.1)

    pub sort_total : (f : A → ℕ) (l : List A) → total f (sort lt l) ≡ total f l
    sort_total f [] = refl
    sort_total f (a ∷ l) = let i = sort_total f l in let j = insert_total f a (sort lt l) in omega arith

    pub sort_length : (l : List A) → length (sort lt l) ≡ length l
    sort_length l = length_total (sort lt l) ∙ sort_total (λ a. 1) l ∙ sym (length_total l)

    pub sort_apart : (R : A → A → Type 0) → ((a b : A) → R a b → R b a) → (l : List A) → Pairwise R l → Pairwise R (sort lt l)
    sort_apart R sy [] h = tt
    sort_apart R sy (a ∷ l) h = insert_apart R sy a (sort lt l) (sort_all (R a) l h.0) (sort_apart R sy l h.1)

pub map_length : {A B : Type 0} (f : A → B) (l : List A) → length (map f l) ≡ length l
map_length f [] = refl
map_length f (a ∷ l) = let i = map_length f l in omega arith
