-- What the reading calls' functions ensure.
use Rattle.std.specs.Prelude.{◌≡◌, true, false, cond, List, [], ◌∷◌, ◌++◌, ℕ, ◌+◌, ◌-◌, ◌*◌, ◌≤◌, ◌<◌, length, take, drop}
use Rattle.std.proofs.Math.Option.{Option, none, some}
use Rattle.queue.specs.bytes.PutAs.{be_last}
use Rattle.queue.specs.layout.FrameCodec.{rec_c}
use Rattle.queue.specs.bytes.ReaderAs.{whole, list_at}
use Rattle.queue.specs.layout.FormsCodec.{form_c}
use Rattle.queue.specs.Areas.{read_area}
use Rattle.queue.specs.paper.Records.{Bytes, Id, Rec, Queue}
use Rattle.queue.specs.paper.Lists.{find}
use Rattle.queue.specs.paper.Changing.{named?}
use Rattle.queue.specs.paper.Area.{head_bytes, rec_bytes}
use Rattle.queue.specs.paper.Calls.{id?, end_of, signed_bytes_of}
use Rattle.queue.specs.declared.Kind.TheVariants.{Nothing}
use Rattle.queue.specs.paper.Answer.{Refused, Done}
use Rattle.queue.specs.declared.refusal.Refusal.{Refusal}
use Rattle.queue.specs.Refusal.{refusal_number}
use Rattle.queue.specs.declared.layout.frame.Seen.{Seen}
use Rattle.queue.specs.declared.read.reading.Place.{Place}

-- the record r stands at `at` of an area
abbrev pub Here : Bytes → ℕ → Rec → Type 0
Here s at r = (at ≤ length s) × (whole (form_c false rec_c) 1 s at ≡ true) × (list_at (form_c false rec_c) 1 s at ≡ r ∷ [])

-- the record with this id stands at `at` of s; the records l, of which it is one, start at `start`
pub record StandsAt (s : Bytes) (id : Id) (start : ℕ) (l : List Rec) (at : ℕ) : Type 0 where
  pub r : Rec
  pub found : find (named? id) l ≡ some r
  pub here : Here s at r
  pub end : at + length (rec_bytes r) ≡ start + end_of id l

-- a record looked up by its id: a refusal, or the record
pub data Look : Type 0 where
  off : ℕ → Look
  hit : Rec → Look

abbrev pub look_rec : Option Rec → Look
look_rec none = off 13
look_rec (some r) = hit r

abbrev pub look_in : Bytes → Option Queue → Look
look_in id none = off 3
look_in id (some q) = cond (id? id) (look_rec (find (named? id) q.recs)) (off 5)

unfoldable pub look_of : Bytes → Bytes → Look
look_of s id = look_in id (read_area s)

-- a record that was looked up stands at `at`, where it belongs
pub record LookedUp (s id : Bytes) (at : ℕ) : Type 0 where
  pub r : Rec
  pub is : look_of s id ≡ hit r
  pub here : Here s at r
  pub end : (q : Queue) → read_area s ≡ some q → at + length (rec_bytes r) ≡ 4 + length (head_bytes q) + end_of id q.recs

-- the look-up is refused
abbrev pub LookRefused : Bytes → Bytes → Refusal → Type 0
LookRefused s id e = look_of s id ≡ off (refusal_number e)

-- where a record's signed bytes stand
pub record SignedAt (s id : Bytes) (x : Place) : Type 0 where
  pub is : (old : ℕ × ℕ) → (Done Nothing, (x.start, x.len)) ≡ signed_bytes_of s id old
  pub within : x.start + x.len ≤ length s

-- the call about signed bytes is refused
abbrev pub SignedRefused : Bytes → Bytes → Refusal → Type 0
SignedRefused s id e = (old : ℕ × ℕ) → (Refused (refusal_number e), old) ≡ signed_bytes_of s id old

-- a part of s: where it starts, and how long it is
abbrev pub part_in : Bytes → ℕ × ℕ → Bytes
part_in s p = take p.1 (drop p.0 s)

-- the entry of a record that was read at base
unfoldable pub entry_at : Bytes → ℕ → Seen → Bytes
entry_at s base x =
    take (x.mark - 1) (drop (base + 1) s)
    ++ (be_last 2 x.facts.ins
    ++ (take (x.facts.ins * 32) (drop (base + x.at) s) ++ (be_last 2 x.facts.reads ++ take (x.facts.reads * 32) (drop (base + x.reads) s))))

abbrev pub entry_len_value : Seen → ℕ
entry_len_value x = x.mark - 1 + (4 + (x.facts.ins * 32 + x.facts.reads * 32))

-- what the entry is made of stands in s
pub record EntryIn (s : Bytes) (base : ℕ) (x : Seen) : Type 0 where
  pub up : 1 ≤ x.mark
  pub most : x.mark ≤ 400
  pub within : base + x.mark ≤ length s
  pub ins : base + x.at + x.facts.ins * 32 ≤ length s
  pub reads : base + x.reads + x.facts.reads * 32 ≤ length s
  pub few : x.facts.ins < 65536
  pub few_reads : x.facts.reads < 65536
