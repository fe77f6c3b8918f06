-- Document 02, P7, "Parents first": "The builder turns down a template that lists a child before its parent. Add a second selection
-- order beside the old one." The order is said of any records and any test of who waits for whom; then of a queue's records.
use Rattle.std.specs.Prelude.{◌≡◌, ℕ, zero, suc, ◌≤◌, Bool, true, cond, not, ◌&&◌, ◌⊎◌, List, [], ◌∷◌, ◌++◌, length}
use Rattle.queue.specs.paper.Answer.{Answer}
use Rattle.queue.specs.paper.Records.{Bytes, Rec, Queue}
use Rattle.queue.specs.paper.Lists.{maybe, any?, find, map}
use Rattle.queue.specs.paper.Ids.{same?}
use Rattle.queue.specs.paper.Sound.{outputs, wanted, among?}
use Rattle.queue.specs.paper.Reading.{selected?, selected_at}
use Rattle.queue.specs.paper.Calls.{ids_bytes, read_of}

-- all but the first that passes
abbrev pub remove : {A : Type 0} → (A → Bool) → List A → List A
remove p [] = []
remove p (a ∷ l) = cond (p a) l (a ∷ remove p l)

-- `waits? a b`: a waits for b
module _ {A : Type 0} (waits? : A → A → Bool) where
  -- those "that wait for nothing unlisted"
  abbrev pub free? : List A → A → Bool
  free? unlisted a = not (any? (waits? a) unlisted)

  -- "The next one listed is always the first, in the old order, of those that wait for nothing unlisted. Records that still wait at
  -- the end are left off." The unlisted stand in the old order; n is only there so that the recursion ends.
  unfoldable pub listed : ℕ → List A → List A
  listed zero unlisted = []
  listed (suc n) unlisted = maybe [] (λ a. a ∷ listed n (remove (free? unlisted) unlisted)) (find (free? unlisted) unlisted)

  -- of all selected, in the old order
  abbrev pub parents_first_value : List A → List A
  parents_first_value selected = listed (length selected) selected

-- "A record waits for every other selected record that has one of its inputs among its outputs." P11: it "waits for them", its read ids,
-- "as for inputs"
unfoldable pub waits_for? : Rec → Rec → Bool
waits_for? r x = not (same? r.id x.id) && any? (λ i. among? i (outputs x.body)) (wanted r.body)

-- ---- the call

abbrev pub parents_first_at : ℕ → ℕ → Queue → List Rec
parents_first_at now height q = parents_first_value waits_for? (selected_at now height q)

unfoldable pub parents_first_of : Bytes → ℕ → ℕ → Bytes → Answer × Bytes
parents_first_of area now height out = read_of (λ q. ids_bytes (map (λ r. r.id) (parents_first_at now height q))) area out

-- ---- what is promised of the list

module _ {A : Type 0} where
  -- a is in the list
  abbrev pub In : A → List A → Type 0
  In a [] = ⊥
  In a (b ∷ l) = (a ≡ b) ⊎ In a l

  -- none twice
  abbrev pub Once : List A → Type 0
  Once [] = Unit {0}
  Once (a ∷ l) = (In a l → ⊥) × Once l

-- "the list holds selected records, none twice, each after all that it waits for"
pub record Fits (now height : ℕ) (q : Queue) (l : List Rec) : Type 0 where
  pub chosen : (r : Rec) → In r l → In r q.recs × (selected? now height r ≡ true)
  pub once : Once l
  pub after : (x y : List Rec) (r p : Rec) → l ≡ x ++ r ∷ y → In p q.recs → selected? now height p ≡ true → waits_for? r p ≡ true → In p x

-- "Show that the list holds selected records, none twice, each after all that it waits for, and that every other such list has at
-- most as many."
pub record ParentsFirst (now height : ℕ) (q : Queue) : Type 0 where
  pub fits : Fits now height q (parents_first_at now height q)
  pub most : (other : List Rec) → Fits now height q other → length other ≤ length (parents_first_at now height q)
