-- The finish numbers of tombstones in a table, and what is said of them.
use Rattle.std.specs.Prelude.{◌≡◌, Bool, true, false, cond, List, [], ◌∷◌, ◌++◌, ℕ, ◌≤◌, ◌<◌, ◌+◌, ◌-◌, ltb, eqb, length, get_or}
use Rattle.queue.specs.check.RulesAs.{above_f}
use Rattle.queue.specs.layout.FrameAs.{facts_of}
use Rattle.queue.specs.paper.Records.{Rec}
use Rattle.queue.specs.paper.Lists.{count}
use Rattle.queue.specs.paper.Sound.{holder?}
use Rattle.queue.specs.declared.layout.frame.Facts.{Facts}

-- the number of a record that was read, if it is a tombstone
abbrev pub number_f : Facts → List ℕ
number_f f = cond f.holder [] (f.finish.0 ∷ [])

unfoldable pub numbers_of : List Rec → List ℕ
numbers_of [] = []
numbers_of (r ∷ l) = cond (holder? r) [] (r.finish ∷ []) ++ numbers_of l

-- how many are m, how many are above x
abbrev pub times_in : ℕ → List ℕ → ℕ
times_in m v = count (λ y. eqb y m) v

abbrev pub over_in : ℕ → List ℕ → ℕ
over_in x v = count (λ y. ltb x y) v

-- no number is there twice, or one is
pub record Differ (v : List ℕ) (b : Bool) : Type 0 where
  pub yes : b ≡ true → (m : ℕ) → times_in m v ≤ 1
  pub no : b ≡ false → (m : ℕ) × (2 ≤ times_in m v)

-- none is below the one before it
abbrev pub Ordered : List ℕ → Type 0
Ordered v = (i : ℕ) → i + 1 < length v → get_or v i 0 ≤ get_or v (i + 1) 0

-- of the m numbers after num, how many are above x
unfoldable pub new_above_value : ℕ → ℕ → ℕ → ℕ
new_above_value num m x = cond (ltb x num) m (cond (ltb x (num + m)) (num + m - x) 0)

-- how many tombstones have a number above x, once m more are finished
unfoldable pub above : ℕ → ℕ → List Rec → ℕ → ℕ
above num m l x = count (λ r. above_f x (facts_of r)) l + new_above_value num m x
