-- The order worked out with counters, over the places 0, 1, .. of the rows in the old order.
--
-- One number a row: 0, it is listed; 1, it is unlisted and waits for nothing unlisted; more, it waits. `kids i` names the rows
-- that wait for row i, in any order and as often as one likes: a counter goes up and down by the same list.
use Rattle.std.specs.Prelude.{◌≡◌, Bool, cond, List, [], ◌∷◌, ℕ, zero, suc, ◌+◌, ◌-◌, ◌<◌, ltb, eqb, length, get_or, set, replicate}
use Rattle.queue.specs.paper.Lists.{any?}

-- the first place that holds 1, or the length
unfoldable pub first_one : List ℕ → ℕ
first_one [] = 0
first_one (c ∷ cs) = cond (eqb c 1) 0 (suc (first_one cs))

unfoldable pub raise : List ℕ → List ℕ → List ℕ
raise [] cs = cs
raise (k ∷ ks) cs = raise ks (set cs k (get_or cs k 0 + 1))

unfoldable pub lower : List ℕ → List ℕ → List ℕ
lower [] cs = cs
lower (k ∷ ks) cs = lower ks (set cs k (get_or cs k 0 - 1))

module _ (kids : ℕ → List ℕ) where
  -- m rows from i on, each raising those that wait for it
  unfoldable pub counted : ℕ → ℕ → List ℕ → List ℕ
  counted i zero cs = cs
  counted i (suc m) cs = counted (suc i) m (raise (kids i) cs)

  -- the first free row, and so on
  unfoldable pub picks : ℕ → List ℕ → List ℕ
  picks zero cs = []
  picks (suc n) cs = cond (ltb (first_one cs) (length cs)) (first_one cs ∷ picks n (lower (kids (first_one cs)) (set cs (first_one cs) 0))) []

  -- before anything is listed: of each of n rows, 1 and how many it waits for
  abbrev pub start : ℕ → List ℕ
  start n = counted 0 n (replicate n 1)

  abbrev pub by_counters : ℕ → List ℕ
  by_counters n = picks n (start n)

module _ {A : Type 0} (waits? : A → A → Bool) (l : List A) (d : A) where
  -- a right table: j stands in the list of i exactly where row j waits for row i
  abbrev pub Kids : (ℕ → List ℕ) → Type 0
  Kids kids = (i j : ℕ) → i < length l → j < length l → any? (eqb j) (kids i) ≡ waits? (get_or l j d) (get_or l i d)

  -- the rows at these places
  abbrev pub rows_at : List ℕ → List A
  rows_at [] = []
  rows_at (i ∷ is) = get_or l i d ∷ rows_at is
