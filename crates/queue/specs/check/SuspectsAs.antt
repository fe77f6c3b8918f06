-- Suspects: places of input ids in a table, and what a look through it ensures.
use Rattle.std.specs.Prelude.{◌≡◌, Bool, true, false, cond, ◌&&◌, ◌||◌, ◌⊎◌, List, [], ◌∷◌, ◌++◌, ℕ, ◌+◌, ◌/◌, ◌%◌, ◌≤◌, ◌<◌, ltb, leb, eqb, length, get_or, drop, Option, MatchOption}
use Rattle.queue.specs.bytes.Parts.{part}
use Rattle.queue.specs.bytes.ViewAs.{view}
use Rattle.queue.specs.check.FilterAs.{has_in, hash_l, marked}
use Rattle.queue.specs.paper.Records.{Bytes, Id, Rec}
use Rattle.queue.specs.paper.Ids.{cmp_l, same?}
use Rattle.queue.specs.paper.Lists.{any?, all?, total, count}
use Rattle.queue.specs.paper.Sound.{inputs, used?, apart?}

-- a row: the place of an id, and the number of its record; too near the end there is no id
unfoldable pub id_r : Bool → Bytes → ℕ → Id
id_r hex s x = cond (leb 32 (length (view hex s (x / 4294967296)))) (part 32 (view hex s (x / 4294967296)) 0) []

unfoldable pub no_r : ℕ → ℕ
no_r x = x % 4294967296

-- rows by id, then by number: x is not behind y
unfoldable pub up_to : Bool → Bytes → ℕ → ℕ → Bool
up_to hex s x y = eqb (cmp_l (id_r hex s x) (id_r hex s y)) 0 || (eqb (cmp_l (id_r hex s x) (id_r hex s y)) 1 && leb (no_r x) (no_r y))

-- the row x has the id z, and a record behind number k
unfoldable pub later : Bool → Bytes → Id → ℕ → ℕ → Bool
later hex s z k x = same? z (id_r hex s x) && ltb k (no_r x)

-- the same rows in some order: what is summed over them stays
pub record Shuffled (v w : List ℕ) : Type 0 where
  pub same : (f : ℕ → ℕ) → total f w ≡ total f v

pub record InOrder (hex : Bool) (s : Bytes) (v : List ℕ) : Type 0 where
  pub next : (i : ℕ) → i + 1 < length v → up_to hex s (get_or v i 0) (get_or v (i + 1) 0) ≡ true

-- the rows before lo are not behind y, those from hi on are
pub record Cut (hex : Bool) (s : Bytes) (v : List ℕ) (y lo hi : ℕ) : Type 0 where
  pub up : lo ≤ hi
  pub within : hi ≤ length v
  pub low : (i : ℕ) → i < lo → up_to hex s (get_or v i 0) y ≡ true
  pub high : (i : ℕ) → hi ≤ i → i < length v → up_to hex s (get_or v i 0) y ≡ false

-- an id of these, or of the records from number k on, is that of a row of a later record
unfoldable pub meets : Bool → Bytes → List ℕ → ℕ → List Id → Bool
meets hex s v k [] = false
meets hex s v k (z ∷ l) = any? (later hex s z k) v || meets hex s v k l

unfoldable pub crosses : Bool → Bytes → List ℕ → ℕ → List Rec → Bool
crosses hex s v k [] = false
crosses hex s v k (r ∷ l) = meets hex s v k (inputs r.body) || crosses hex s v (k + 1) l

-- the row's id is in a record from its number on; and in none before it
unfoldable pub held? : Bool → Bytes → List Rec → ℕ → Bool
held? hex s all x = ltb 0 (count (has_in (id_r hex s x)) (drop (no_r x) all))

unfoldable pub first? : Bool → Bytes → List Rec → ℕ → Bool
first? hex s all x = leb (count (has_in (id_r hex s x)) all) (count (has_in (id_r hex s x)) (drop (no_r x) all))

-- the row w behind the rows z: kept with them, or alone once they were looked through
pub record Grown (hex : Bool) (s : Bytes) (all : List Rec) (z : List ℕ) (w : ℕ) (z' : List ℕ) : Type 0 where
  pub good : (z' ≡ z ++ (w ∷ [])) ⊎ ((z' ≡ w ∷ []) × (crosses hex s z 0 all ≡ false))

-- a full table: the last was looked through, and a row's id is in a record before its own; another is given up
pub record Full (last hex : Bool) (s : Bytes) (all : List Rec) (z : List ℕ) : Type 0 where
  pub bad : last ≡ true → crosses hex s z 0 all ≡ true

-- own ids of record k passed: every own id is marked now, and if it was marked before, no record before k has it, once the rows are looked through
pub record Noted (hex : Bool) (s : Bytes) (all : List Rec) (k : ℕ) (own : Id → Bool) (t z t' z' : List ℕ) : Type 0 where
  pub size : length t' ≡ length t
  pub old : (h : ℕ) → marked t h ≡ true → marked t' h ≡ true
  pub held : all? (held? hex s all) z' ≡ true
  pub back : all? (first? hex s all) z' ≡ true → all? (first? hex s all) z ≡ true
  pub one : all? (first? hex s all) z' ≡ true → (x : Id) → own x ≡ true → marked t (hash_l x) ≡ true → count (has_in x) all ≤ count (has_in x) (drop k all)
  pub new : (x : Id) → own x ≡ true → marked t' (hash_l x) ≡ true

-- two records have an id, if the table is the last; what was marked still is
pub record Twice (last : Bool) (all : List Rec) (t t' : List ℕ) : Type 0 where
  pub size : length t' ≡ length t
  pub old : (h : ℕ) → marked t h ≡ true → marked t' h ≡ true
  pub bad : last ≡ true → apart? all ≡ false

-- the answer to the test b: none is known, if the table is not the last
pub record Said (last b : Bool) (r : Option Bool) : Type 0 where
  pub is : MatchOption r (last ≡ false) (λ x. x ≡ b)

-- every input is marked
pub record AllMarked (all : List Rec) (t : List ℕ) : Type 0 where
  pub each : (x : Id) → used? x all ≡ true → marked t (hash_l x) ≡ true

-- ids that records from number k on have
abbrev pub Owned : List Rec → ℕ → (Id → Bool) → Type 0
Owned all k own = (x : Id) → own x ≡ true → 0 < count (has_in x) (drop k all)
