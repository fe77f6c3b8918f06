-- Ids that a record reads and does not spend, their rows, and what a walk that looks for their spenders ensures.
use Rattle.std.specs.Prelude.{◌≡◌, Bool, true, false, not, ◌&&◌, List, ℕ, eqb}
use Rattle.queue.specs.check.SuspectsAs.{id_r, no_r}
use Rattle.queue.specs.paper.Records.{Bytes, Id, Rec}
use Rattle.queue.specs.paper.Lists.{any?, all?}
use Rattle.queue.specs.paper.Sound.{inputs, reads, among?, used?, read_apart?}

-- the record reads z and does not spend it
unfoldable pub foreign? : Id → Rec → Bool
foreign? z r = among? z (reads r.body) && not (among? z (inputs r.body))

-- the row of a read id: its number is above that of every record, and a record reads its id and does not spend it
unfoldable pub strange? : Bool → Bytes → List Rec → ℕ → Bool
strange? hex s all x = eqb (no_r x) 4294967295 && any? (foreign? (id_r hex s x)) all

-- nobody spends the row's id
unfoldable pub idle? : Bool → Bytes → List Rec → ℕ → Bool
idle? hex s all x = not (used? (id_r hex s x) all)

-- a record reads each of these ids that is not one of ins, and does not spend it
abbrev pub Foreign : List Rec → List Id → List Id → Type 0
Foreign all ids ins = (x : Id) → among? x ids ≡ true → among? x ins ≡ false → any? (foreign? x) all ≡ true

-- read ids passed, those of a record with the inputs ins: nobody spends one of them that is not one of ins, once the rows are looked through
pub record Asked (hex : Bool) (s : Bytes) (all : List Rec) (ids ins : List Id) (z z' : List ℕ) : Type 0 where
  pub odd : all? (strange? hex s all) z' ≡ true
  pub back : all? (idle? hex s all) z' ≡ true → all? (idle? hex s all) z ≡ true
  pub one : all? (idle? hex s all) z' ≡ true → (x : Id) → among? x ids ≡ true → among? x ins ≡ false → used? x all ≡ false

-- a record spends what another reads, if the table is the last
pub record Spent (last : Bool) (all : List Rec) : Type 0 where
  pub bad : last ≡ true → read_apart? all ≡ false

-- the same without a table: b says that nobody spends one of them that is not one of ins; else a record spends what another reads
pub record Passes (all : List Rec) (ids ins : List Id) (b : Bool) : Type 0 where
  pub yes : b ≡ true → (x : Id) → among? x ids ≡ true → among? x ins ≡ false → used? x all ≡ false
  pub no : b ≡ false → read_apart? all ≡ false
