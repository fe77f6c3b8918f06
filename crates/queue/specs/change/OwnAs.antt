-- Which wanted ids are owned, as the code goes: a flag for each of them, of all records, and rows of outputs.
use Rattle.std.specs.Prelude.{◌≡◌, Bool, true, false, cond, ◌||◌, List, [], ◌∷◌, ◌++◌, ℕ, zero, suc, ◌+◌, ◌*◌, ◌/◌, ◌%◌, ◌≤◌, ◌<◌, eqb, length, take, drop, set}
use Rattle.queue.specs.check.FilterAs.{hash_l, marked, mark_l}
use Rattle.queue.specs.check.SuspectsAs.{later, Shuffled}
use Rattle.queue.specs.layout.FrameCodec.{id_c}
use Rattle.queue.specs.bytes.ReaderAs.{list_at}
use Rattle.queue.specs.declared.layout.frame.Seen.{Seen}
use Rattle.queue.specs.paper.Records.{Bytes, Id, Rec}
use Rattle.queue.specs.paper.Lists.{one, any?, all?, map, concat}
use Rattle.queue.specs.paper.Sound.{wanted, among?}

-- the ids that all records want
unfoldable pub wanted_of : List Rec → List Id
wanted_of l = concat (map (λ r. wanted r.body) l)

-- those that the record read from v wants
abbrev pub wanted_at : Bytes → Seen → List Id
wanted_at v x = list_at id_c x.facts.ins v x.at ++ list_at id_c x.facts.reads v x.reads

abbrev pub set? : ℕ → Bool
set? b = eqb b 1

-- the bits of words, the lowest first
unfoldable pub word_bits : ℕ → ℕ → List ℕ
word_bits zero x = []
word_bits (suc n) x = (x % 2) ∷ word_bits n (x / 2)

unfoldable pub bits_in : List ℕ → List ℕ
bits_in [] = []
bits_in (x ∷ f) = word_bits 64 x ++ bits_in f

-- words with room for n flags, whose places are numbers of 64 bits
abbrev pub Fits : ℕ → List ℕ → Type 0
Fits n f = (n ≤ 64 * length f) × (n < 9223372036854775808)

-- the flags of ids from g on, set where q says so
unfoldable pub mark_all_value : (Id → Bool) → List Id → List ℕ → ℕ → List ℕ
mark_all_value q [] f g = f
mark_all_value q (z ∷ l) f g = mark_all_value q l (cond (q z) (set f g 1) f) (g + 1)

-- the ids of which q does not say so are marked in a filter
unfoldable pub miss_all : (Id → Bool) → List Id → List ℕ → List ℕ
miss_all q [] t = t
miss_all q (z ∷ l) t = miss_all q l (cond (q z) t (mark_l t (hash_l z)))

unfoldable pub flags_of : (Id → Bool) → List Id → List ℕ
flags_of own l = map (λ z. one (own z)) l

pub record FlagsAre (own : Id → Bool) (l : List Id) (f : List ℕ) : Type 0 where
  pub more : List ℕ
  pub is : f ≡ flags_of own l ++ more

-- those from g on
pub record FlagsFrom (own l : List Id) (flags : List ℕ) (g : ℕ) : Type 0 where
  pub up : g ≤ length flags
  pub are : FlagsAre (λ z. among? z own) l (drop g flags)

-- flags say which ids are owned, and a filter has the others
pub record Noted (own : Id → Bool) (l : List Id) (f t : List ℕ) : Type 0 where
  pub room : Fits (length l) f
  pub some : 0 < length t
  pub are : FlagsAre own l (bits_in f)
  pub new : (z : Id) → among? z l ≡ true → own z ≡ false → marked t (hash_l z) ≡ true

-- flags, rows and what is still to come say together which ids of l are owned; the filter has those without a flag
pub record Covering (s : Bytes) (l : List Id) (t : List ℕ) (all : Id → Bool) (f v : List ℕ) (rest : Id → Bool) : Type 0 where
  pub done : Id → Bool
  pub flags : FlagsAre done l f
  pub same : (z : Id) → among? z l ≡ true → (done z || (any? (later false s z 0) v || rest z)) ≡ all z
  pub new : (z : Id) → among? z l ≡ true → done z ≡ false → marked t (hash_l z) ≡ true

-- rows that went into the flags
pub record Settled (s : Bytes) (l : List Id) (f v f' v' : List ℕ) : Type 0 where
  pub kept : Shuffled v v'
  pub on : (t : List ℕ) (all rest : Id → Bool) → Covering s l t all f v rest → Covering s l t all f' [] rest

-- new ids that went into rows and flags, save those that the filter has not
pub record Taken (s : Bytes) (l : List Id) (t f v : List ℕ) (new : Id → Bool) (f' v' : List ℕ) : Type 0 where
  pub on : (all rest : Id → Bool) → Covering s l t all f v (λ z. new z || rest z) → Covering s l t all f' v' rest

-- the flags from g on say whether all of c ids are owned
pub record QuickFor (quick : Bool) (own ins : List Id) (flags : List ℕ) (g c : ℕ) : Type 0 where
  pub room : quick ≡ true → g + c ≤ length flags
  pub small : g + c < 9223372036854775808
  pub says : quick ≡ true → all? set? (take c (drop g flags)) ≡ all? (λ i. among? i own) ins
