-- A filter: numbers marked in a table of bits. It can only say yes too often. And what a pass over records with a filter ensures.
use Rattle.std.specs.Prelude.{◌≡◌, Bool, true, false, not, ◌&&◌, List, ℕ, ◌+◌, ◌*◌, ◌/◌, ◌%◌, ◌^◌, ◌≤◌, eqb, length, get_or, set}
use Rattle.std.specs.Int.Bits.{bit_or}
use Rattle.queue.specs.bytes.ViewAs.{view}
use Rattle.queue.specs.layout.FrameCodec.{id_c}
use Rattle.queue.specs.bytes.ReaderAs.{list_at}
use Rattle.queue.specs.bytes.ReaderLaws.{be_at}
use Rattle.queue.specs.paper.Records.{Bytes, Id, Rec}
use Rattle.queue.specs.paper.Lists.{count}
use Rattle.queue.specs.paper.Sound.{inputs, among?}
use Rattle.queue.specs.declared.layout.frame.Seen.{Seen}

-- any place in the table, any bits and any number of an id serve: only speed depends on them
unfoldable pub slot_l : ℕ → ℕ → ℕ
slot_l n h = h % n

unfoldable pub mask_l : ℕ → ℕ
mask_l h = bit_or (bit_or (bit_or (2 ^ (h / 16384 % 64)) (2 ^ (h / 1048576 % 64))) (2 ^ (h / 67108864 % 64))) (2 ^ (h / 4294967296 % 64))

unfoldable pub hash_l : Id → ℕ
hash_l x = (be_at 8 (view false x 0) 0 + be_at 8 (view false x 0) 24) % 2 ^ 64 % 274877906899

unfoldable pub hash_n : ℕ → ℕ
hash_n n = n % 4294967291 * 2654435769 % 274877906899

unfoldable pub marked : List ℕ → ℕ → Bool
marked t h = eqb (bit_or (get_or t (slot_l (length t) h) 0) (mask_l h)) (get_or t (slot_l (length t) h) 0)

unfoldable pub mark_l : List ℕ → ℕ → List ℕ
mark_l t h = set t (slot_l (length t) h) (bit_or (get_or t (slot_l (length t) h) 0) (mask_l h))

-- how many records have x among their inputs
abbrev pub has_in : Id → Rec → Bool
has_in x r = among? x (inputs r.body)

unfoldable pub held_by_value : List Rec → Id → ℕ
held_by_value l x = count (has_in x) l

-- own keys passed: b, and some key counts twice; or every own key is marked now, and counts at most once if it was marked before
pub record Passed {K : Type 0} (own : K → Bool) (hash H : K → ℕ) (t : List ℕ) (b : Bool) (t' : List ℕ) : Type 0 where
  pub size : length t' ≡ length t
  pub old : (h : ℕ) → marked t h ≡ true → marked t' h ≡ true
  pub two : b ≡ true → (x : K) × (2 ≤ H x)
  pub one : b ≡ false → (x : K) → own x ≡ true → marked t (hash x) ≡ true → H x ≤ 1
  pub new : b ≡ false → (x : K) → own x ≡ true → marked t' (hash x) ≡ true

-- own keys are new: none was marked, and each is marked now
pub record New {K : Type 0} (own : K → Bool) (hash : K → ℕ) (t t' : List ℕ) : Type 0 where
  pub old : (h : ℕ) → marked t h ≡ true → marked t' h ≡ true
  pub none : (x : K) → own x ≡ true → marked t (hash x) ≡ false
  pub new : (x : K) → own x ≡ true → marked t' (hash x) ≡ true

-- so are the inputs of a record as it was read, and a tombstone's finish number; and nothing before was not
pub record NewSeen (v : Bytes) (x : Seen) (clear : Bool) (t t' : List ℕ) : Type 0 where
  pub before : clear ≡ true
  pub inputs : New (λ z. among? z (list_at id_c x.facts.ins v x.at)) hash_l t t'
  pub number : New (λ m. not x.facts.holder && eqb x.facts.finish.0 m) hash_n t t'

-- of all bytes of an id
unfoldable pub hash_all_value : Id → ℕ
hash_all_value x = ((be_at 8 (view false x 0) 0 + be_at 8 (view false x 0) 8) % 2 ^ 64 + (be_at 8 (view false x 0) 16 + be_at 8 (view false x 0) 24) % 2 ^ 64) % 2 ^ 64 % 274877906899 * 41475557 / 8192
