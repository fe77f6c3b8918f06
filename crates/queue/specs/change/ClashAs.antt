-- Lent ids in a table of rows: is an id one of them, and does a record spend or read one?
use Rattle.std.specs.Prelude.{eqb, ◌≡◌, Bool, false, cond, List, ℕ, ◌≤◌, ◌<◌, length, get_or, ◌≢◌}
use Rattle.queue.specs.check.SuspectsAs.{id_r}
use Rattle.queue.specs.change.ReopenAs.{ids_at}
use Rattle.queue.specs.paper.Records.{Bytes, Id, Rec}
use Rattle.queue.specs.paper.Ids.{cmp_l, same?}
use Rattle.queue.specs.paper.Lists.{any?}
use Rattle.queue.specs.paper.Sound.{inputs, reads, among?}
use Rattle.queue.specs.change.TouchAs.{SeenOf}
use Rattle.queue.specs.declared.layout.frame.Seen.{Seen}

unfoldable pub row_has : Bytes → Id → ℕ → Bool
row_has t z x = same? z (id_r false t x)

-- the rows are those of the k ids in t
pub record RowsOf (t : Bytes) (k : ℕ) (v : List ℕ) : Type 0 where
  pub has : (z : Id) → any? (row_has t z) v ≡ among? z (ids_at t k)

-- is the id of a row lower than z?
abbrev pub below_row : Bytes → Id → ℕ → Bool
below_row t z x = eqb (cmp_l (id_r false t x) z) 0

-- the n first rows have lower ids than z, the others have not
pub record CutId (t : Bytes) (v : List ℕ) (z : Id) (n : ℕ) : Type 0 where
  pub within : n ≤ length v
  pub low : (i : ℕ) → i < n → cmp_l (id_r false t (get_or v i 0)) z ≡ 0
  pub high : (i : ℕ) → n ≤ i → i < length v → cmp_l (id_r false t (get_or v i 0)) z ≢ 0

-- one of these ids is one of those
unfoldable pub any_of : List Id → List Id → Bool
any_of ids l = any? (λ z. among? z ids) l

-- what a record reads, or its inputs; one of the records' is one of these
abbrev pub list_of : Bool → Rec → List Id
list_of read r = cond read (reads r.body) (inputs r.body)

unfoldable pub meets_ids : Bool → List Id → List Rec → Bool
meets_ids read ids l = any? (λ r. any_of ids (list_of read r)) l

abbrev pub MeetsIs : Bytes → ℕ → Seen → Bool → List Id → Bool → Type 0
MeetsIs s base x read ids b = (r : Rec) → SeenOf s base x r → b ≡ any_of ids (list_of read r)

-- one of these is read, or else spent, by a record
unfoldable pub clashes : Bool → List Id → List Rec → Bool
clashes read ids l = any? (λ i. any? (λ r. among? i (list_of read r)) l) ids
