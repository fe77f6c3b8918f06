-- Who waits for whom, as the code goes: rows for the ids that records want, a bit for each pair of rows of the selection.
use Rattle.std.specs.Prelude.{◌≡◌, Bool, true, false, cond, not, ◌&&◌, ◌||◌, List, [], ◌∷◌, ◌++◌, ℕ, zero, suc, ◌+◌, ◌-◌, ◌*◌, ◌/◌, ◌%◌, ◌^◌, ◌≤◌, ◌<◌, ltb, eqb, length, get_or, set, take, drop, replicate}
use Rattle.queue.specs.check.FilterAs.{slot_l, marked, mark_l, hash_all_value}
use Rattle.queue.specs.check.SuspectsAs.{id_r, no_r, later, InOrder, Cut}
use Rattle.queue.specs.Codec.{All}
use Rattle.queue.specs.layout.FrameCodec.{id_c}
use Rattle.queue.specs.bytes.ViewAs.{view}
use Rattle.queue.specs.bytes.ReaderAs.{whole, list_at}
use Rattle.queue.specs.Lists.{Pairwise}
use Rattle.queue.specs.read.FeesAs.{rec_at_value, Known}
use Rattle.queue.specs.paper.Records.{Bytes, Id, Rec}
use Rattle.queue.specs.paper.Lists.{any?, all?}
use Rattle.queue.specs.paper.Ids.{same?}
use Rattle.queue.specs.paper.Sound.{inputs, outputs, reads, wanted, among?}

-- what the record at place number i of `at` wants, and its outputs
abbrev pub wants_at : Bytes → List ℕ → ℕ → List Id
wants_at s at i = wanted (rec_at_value s (get_or at i 0)).body

abbrev pub outs_at : Bytes → List ℕ → ℕ → List Id
outs_at s at i = outputs (rec_at_value s (get_or at i 0)).body

-- one that spends at most 128 ids, and reads as many
abbrev pub Modest : Rec → Type 0
Modest r = (length (inputs r.body) ≤ 128) × (length (reads r.body) ≤ 128)

abbrev pub Short : Bytes → ℕ → Type 0
Short s p = Modest (rec_at_value s p)

-- records stand at these places, which want no more, each with an id of its own
pub record Named (s : Bytes) (at : List ℕ) : Type 0 where
  pub known : All (Known s) at
  pub short : All (Short s) at
  pub apart : Pairwise (λ p q. same? (rec_at_value s p).id (rec_at_value s q).id ≡ false) at

-- ---- bits

-- bit k of a word
unfoldable pub bit_l : ℕ → ℕ → Bool
bit_l x zero = eqb (x % 2) 1
bit_l x (suc k) = bit_l (x / 2) k

-- a line of w words for each row i, a bit for each j
unfoldable pub bit_at : List ℕ → ℕ → ℕ → ℕ → Bool
bit_at bits w i j = bit_l (get_or bits (i * w + j / 64) 0) (j % 64)

-- more bits are set, and these
pub record Joined (w : ℕ) (bits bits' : List ℕ) (new : ℕ → ℕ → Bool) : Type 0 where
  pub size : length bits' ≡ length bits
  pub is : (i j : ℕ) → i * w + w ≤ length bits → j < 64 * w → bit_at bits' w i j ≡ (bit_at bits w i j || new i j)

-- ---- rows: a row's number names records that want its id, some of 16 that stand together; a row with the number 0 is none

-- the number of one record: its group of 16 records, and its bit there
unfoldable pub group_mask_value : ℕ → ℕ
group_mask_value m = m / 16 * 65536 + 2 ^ (m % 16)

-- the number n names record j
unfoldable pub names : ℕ → ℕ → Bool
names n j = eqb (n / 65536) (j / 16) && bit_l n (j % 16)

-- the bits r name, in the group of n, all that n names but one row
pub record Others (n row r : ℕ) : Type 0 where
  pub small : r < 65536
  pub is : (j : ℕ) → (eqb (n / 65536) (j / 16) && bit_l r (j % 16)) ≡ (names n j && not (eqb j row))

-- the row x says that record j wants the id z
unfoldable pub hit : Bytes → ℕ → Id → ℕ → Bool
hit s j z x = later false s z 0 x && names (no_r x) j

-- in the line of a row, that of another
abbrev pub in_line : ℕ → ℕ → ℕ → Bool
in_line row i j = eqb i row && not (eqb j row)

pub record Zero (v : List ℕ) : Type 0 where
  pub all : (i : ℕ) → get_or v i 0 ≡ 0

-- all set to 0, if they are to be
pub record Cleared (go : Bool) (v v' : List ℕ) : Type 0 where
  pub yes : go ≡ true → Zero v'
  pub no : go ≡ false → v' ≡ v

-- a row into its slot, or behind others, where its number is marked
pub record Slotted (h w k : ℕ) (slots t v : List ℕ) (r : ℕ) (slots' t' v' : List ℕ) : Type 0 where
  pub some : 0 < length slots
  pub free : get_or slots (slot_l (length slots) h) 0 ≡ 0 → (r ≡ k) × (slots' ≡ set slots (slot_l (length slots) h) w) × (t' ≡ t) × (v' ≡ v)
  pub taken : (get_or slots (slot_l (length slots) h) 0 ≡ 0 → ⊥) → (r ≡ k + 1) × (slots' ≡ slots) × (t' ≡ mark_l t h) × (v' ≡ set v k w) × (0 < length t)

-- the rows in slots and in a table say who wants what; each slot has its own rows, what is in the table is marked
pub record RowsHold (s : Bytes) (slots t rows : List ℕ) (own : ℕ → Id → Bool) : Type 0 where
  pub has : (j : ℕ) (z : Id) → (any? (hit s j z) slots || any? (hit s j z) rows) ≡ own j z
  pub placed : (i : ℕ) → i < length slots → 0 < no_r (get_or slots i 0) → slot_l (length slots) (hash_all_value (id_r false s (get_or slots i 0))) ≡ i
  pub noted : all? (λ x. marked t (hash_all_value (id_r false s x))) rows ≡ true

-- rows of record j for these ids came
pub record Rowed (s : Bytes) (j : ℕ) (ids : List Id) (slots t rows slots' t' rows' : List ℕ) : Type 0 where
  pub sizes : (length slots' ≡ length slots) × (length t' ≡ length t)
  pub by : (own : ℕ → Id → Bool) → RowsHold s slots t rows own → RowsHold s slots' t' rows' (λ i z. own i z || (eqb i j && among? z ids))

-- the row before place k of v has the id and the group of x
pub record Again (s : Bytes) (v : List ℕ) (k x : ℕ) : Type 0 where
  pub some : 0 < k
  pub id : id_r false s (get_or v (k - 1) 0) ≡ id_r false s x
  pub group : no_r (get_or v (k - 1) 0) / 65536 ≡ no_r x / 65536

-- z says what the rows v say, and has no other ids
pub record Thinned (s : Bytes) (v z : List ℕ) : Type 0 where
  pub same : (j : ℕ) (i : Id) → any? (hit s j i) z ≡ any? (hit s j i) v
  pub some : (p : Id → Bool) → all? (λ x. p (id_r false s x)) v ≡ true → all? (λ x. p (id_r false s x)) z ≡ true

-- the row x behind the first k of v, or in the last of these
pub record Thinner (s : Bytes) (v : List ℕ) (k x r : ℕ) (v' : List ℕ) : Type 0 where
  pub size : length v' ≡ length v
  pub up : r ≤ k + 1
  pub rest : drop (k + 1) v' ≡ drop (k + 1) v
  pub same : (j : ℕ) (i : Id) → any? (hit s j i) (take r v') ≡ (any? (hit s j i) (take k v) || hit s j i x)
  pub some : (p : Id → Bool) → all? (λ x. p (id_r false s x)) (take k v) ≡ true → p (id_r false s x) ≡ true → all? (λ x. p (id_r false s x)) (take r v') ≡ true

-- bits that come of the rows, whatever these say
pub record Linked (w : ℕ) (s : Bytes) (slots t rows bits bits' : List ℕ) (new : (ℕ → Id → Bool) → ℕ → ℕ → Bool) : Type 0 where
  pub by : (own : ℕ → Id → Bool) → RowsHold s slots t rows own → Joined w bits bits' (new own)

-- in the line of row i the bit of j: another one, which wants an output of i
unfoldable pub outputs_linked : Bytes → List ℕ → (ℕ → Id → Bool) → ℕ → ℕ → Bool
outputs_linked s at own i j = ltb i (length at) && (any? (own j) (outs_at s at i) && not (eqb j i))

-- c says where the outputs of the record at place p stand, and how many there are
pub record OutsIs (s : Bytes) (p c : ℕ) : Type 0 where
  pub within : c / 4294967296 ≤ length (view false s p)
  pub all : whole id_c (c % 4294967296) (view false s p) (c / 4294967296) ≡ true
  pub list : list_at id_c (c % 4294967296) (view false s p) (c / 4294967296) ≡ outputs (rec_at_value s p).body

-- so do the first n of outs, of the records at the first n places
pub record OutsTo (s : Bytes) (at outs : List ℕ) (n : ℕ) : Type 0 where
  pub each : (i : ℕ) → i < n → OutsIs s (get_or at i 0) (get_or outs i 0)

-- the bits of all lines, put into a table without any: the bit of j in the line of i says that j, another one, wants an output of i
pub record LinksIn (w : ℕ) (s : Bytes) (at bits : List ℕ) : Type 0 where
  pub from : List ℕ
  pub zero : Zero from
  pub fits : length at * w ≤ length from
  pub joined : Joined w from bits (outputs_linked s at (λ j z. ltb j (length at) && among? z (wants_at s at j)))

-- where a look for the id of y begins
pub record Begins (ordered : Bool) (s : Bytes) (v : List ℕ) (y from : ℕ) : Type 0 where
  pub yes : ordered ≡ true → InOrder false s v × Cut false s v y from from
  pub no : ordered ≡ false → from ≡ 0

-- ---- the rows that wait for row i, off the bits

-- the bits of a word, from the lowest on, the first of them being j
unfoldable pub ones : ℕ → ℕ → ℕ → List ℕ
ones zero x j = []
ones (suc n) x j = cond (eqb (x % 2) 1) (j ∷ ones n (x / 2) (j + 1)) (ones n (x / 2) (j + 1))

-- of m words from place p on
unfoldable pub word_ones : List ℕ → ℕ → ℕ → ℕ → List ℕ
word_ones bits zero p j = []
word_ones bits (suc m) p j = ones 64 (get_or bits p 0) j ++ word_ones bits m (p + 1) (j + 64)

unfoldable pub kids_of : List ℕ → ℕ → ℕ → List ℕ
kids_of bits w i = word_ones bits w (i * w) 0

-- ---- counters

-- n of them, each 1
pub record Ones (n : ℕ) (cs : List ℕ) : Type 0 where
  pub is : cs ≡ replicate n 1

-- none is above b
pub record Few (b : ℕ) (cs : List ℕ) : Type 0 where
  pub all : (j : ℕ) → get_or cs j 0 ≤ b

-- none before `from` is 1
pub record Clear (from : ℕ) (cs : List ℕ) : Type 0 where
  pub all : (j : ℕ) → j < from → get_or cs j 0 ≡ 1 → ⊥

-- counters that became these, and before r none is 1, if none was before `from`
pub record Lowered (cs : List ℕ) (from : ℕ) (these : List ℕ) (r : ℕ) (cs' : List ℕ) : Type 0 where
  pub is : cs' ≡ these
  pub clear : Clear from cs → Clear r cs'
