-- What a reconciliation makes of one record, as the code goes.
use Rattle.std.specs.Prelude.{◌≡◌, Bool, true, false, cond, not, ◌&&◌, List, [], ◌∷◌, ◌++◌, ℕ, ◌+◌, ◌*◌, ◌/◌, ◌%◌, ◌≤◌, eqb, length, take, drop}
use Rattle.std.proofs.Math.Option.{Option, none, some}
use Rattle.queue.specs.layout.FrameCodec.{rec_c}
use Rattle.queue.specs.bytes.ViewAs.{view}
use Rattle.queue.specs.layout.FormsCodec.{form_c}
use Rattle.queue.specs.layout.RecordsAs.{recs_at}
use Rattle.queue.specs.layout.FrameAs.{SeenAs}
use Rattle.queue.specs.change.ReopenAs.{ids_at}
use Rattle.queue.specs.change.VerdictAs.{verdict_code}
use Rattle.queue.specs.paper.Records.{Bytes, Id, Rec, queued, conflicted}
use Rattle.queue.specs.paper.Lists.{is_some, find, map}
use Rattle.queue.specs.paper.Ids.{same?, rise?}
use Rattle.queue.specs.paper.Sound.{mined?}
use Rattle.queue.specs.paper.Changing.{Applied, confirmed?, confirm, queued_outputs, touch_found, remade}
use Rattle.queue.specs.paper.Calls.{pieces, applied_of}
use Rattle.queue.specs.declared.change.block.Block.{Block}
use Rattle.queue.specs.declared.layout.frame.Seen.{Seen}
use Rattle.queue.specs.declared.layout.frame.Facts.{Facts}
use Rattle.queue.specs.declared.layout.records.Records.{Records}
use Rattle.queue.specs.declared.change.touch.Judgement.{Judgement}

-- the applied entry at p, and k of them from the start
abbrev pub entry_in : Bytes → ℕ → Applied
entry_in t p = applied_of (take 68 (drop p t))

abbrev pub applied_in : Bytes → ℕ → List Applied
applied_in t k = map applied_of (pieces 68 k t)

-- their ids; they stand in t, and rise
abbrev pub entry_ids : Bytes → ℕ → List Id
entry_ids t k = map (take 32) (pieces 68 k t)

pub record EntriesRise (t : Bytes) (k : ℕ) : Type 0 where
  pub all : length t ≡ k * 68
  pub rise : rise? (entry_ids t k) ≡ true

-- an id's entry has this number; no entry has the id
pub record EntryAt (t : Bytes) (k : ℕ) (id : Id) (at : ℕ) : Type 0 where
  pub within : 68 * at + 68 ≤ length t
  pub is : find (λ a. same? id a.id) (applied_in t k) ≡ some (entry_in t (68 * at))

pub record NoEntry (t : Bytes) (k : ℕ) (id : Id) : Type 0 where
  pub is : find (λ a. same? id a.id) (applied_in t k) ≡ none

-- x was read at base, and says of r
abbrev pub SeenOf : Bytes → ℕ → Seen → Rec → Type 0
SeenOf s base x r = SeenAs (view false s base) x r × rec_c.ok r

abbrev pub SeenHere : Bytes → ℕ → Seen → Type 0
SeenHere s base x = (r : Rec) × SeenOf s base x r

abbrev pub ConfirmedIs : Bytes → ℕ → Seen → Bytes → ℕ → Bool → Type 0
ConfirmedIs s base x t p b = (r : Rec) → SeenOf s base x r → b ≡ (mined? r && confirmed? (entry_in t p) r.place)

-- the available ids and the outputs of Queued records
unfoldable pub own_ids : List Id → List Rec → List Id
own_ids ids l = ids ++ queued_outputs l

unfoldable pub judge_f : Bool → Facts → ℕ
judge_f fine f = cond fine (cond (eqb f.state 0 && eqb f.reason 0) 0 2) (cond (eqb f.state 3 && eqb f.reason 5) 0 3)

-- a verdict as numbers: what becomes of the record, and where the applied entry begins that confirms it
pub record VerdictNumbers : Type 0 where
  pub what : ℕ
  pub at : ℕ

abbrev pub verdict_numbers : Judgement → VerdictNumbers
verdict_numbers v = record { what = verdict_code v.what; at = v.at }

-- what a verdict makes of a record
unfoldable pub as_touched : Bytes → VerdictNumbers → Rec → Option Rec
as_touched t v r =
    cond (eqb v.what 0) none
    (cond (eqb v.what 1) (some (confirm (entry_in t v.at) r))
    (cond (eqb v.what 2) (some (remade queued 0 r.place r.mark r.finish r.body r)) (some (remade conflicted 5 r.place r.mark r.finish r.body r))))

-- a verdict in one number: what, and the number of the applied entry, which stands in t
unfoldable pub verdict_of_value : ℕ → VerdictNumbers
verdict_of_value c = record { what = c % 4; at = cond (eqb (c % 4) 1) (68 * (c / 4)) 0 }

abbrev pub InEntry : Bytes → ℕ → Type 0
InEntry t c = c % 4 ≡ 1 → 68 * (c / 4) + 68 ≤ length t

pub record TouchIs (s : Bytes) (recs : Records) (base : ℕ) (x : Seen) (t : Bytes) (k : ℕ) (caught : Bool) (ids : List Id) (c : ℕ) : Type 0 where
  pub is : (r : Rec) → SeenOf s base x r → touch_found caught (own_ids ids (recs_at (form_c false rec_c) s recs)) r (find (λ a. same? r.id a.id) (applied_in t k)) ≡ as_touched t (verdict_of_value c) r
  pub within : InEntry t c

-- a verdict on each record
pub record VerdictOn (t : Bytes) (caught : Bool) (own : List Id) (es : List Applied) (r : Rec) (c : ℕ) : Type 0 where
  pub is : touch_found caught own r (find (λ a. same? r.id a.id) es) ≡ as_touched t (verdict_of_value c) r
  pub within : InEntry t c

abbrev pub Judged : Bytes → Bool → List Id → List Applied → List Rec → List ℕ → Type 0
Judged t caught own es [] [] = Unit {0}
Judged t caught own es [] (c ∷ v) = ⊥
Judged t caught own es (r ∷ l) [] = ⊥
Judged t caught own es (r ∷ l) (c ∷ v) = VerdictOn t caught own es r c × Judged t caught own es l v

-- on each of the records of an area
abbrev pub JudgedAt : Bytes → Records → Block → Bytes → Bytes → List ℕ → Type 0
JudgedAt s recs b t ids v = Judged t b.caught (own_ids (ids_at ids b.available) (recs_at (form_c false rec_c) s recs)) (applied_in t b.entries) (recs_at (form_c false rec_c) s recs) v

abbrev pub changed? : ℕ → Bool
changed? c = not (eqb (c % 4) 0)

-- does a reconciliation change a record, given the own ids and the applied entries?
abbrev pub changes? : Bool → List Id → List Applied → Rec → Bool
changes? caught own es r = is_some (touch_found caught own r (find (λ a. same? r.id a.id) es))
