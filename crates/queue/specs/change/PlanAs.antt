-- What becomes of an area's records: a row for each record that changes, by rising places, and the records that come of the rows.
use Rattle.std.specs.Prelude.{◌≡◌, Bool, cond, ◌&&◌, ◌||◌, ◌⊎◌, List, [], ◌∷◌, ◌++◌, ℕ, ◌+◌, ◌-◌, ◌*◌, ◌/◌, ◌%◌, ◌≤◌, ◌<◌, leb, eqb, length, take, drop, get_or}
use Rattle.std.proofs.Math.Option.{Option, none, some}
use Rattle.queue.specs.check.AreaAs.{AreaIn}
use Rattle.queue.specs.layout.FrameAs.{terms_at, facts_of, limits_in}
use Rattle.queue.specs.bytes.PutAs.{be_last}
use Rattle.queue.specs.layout.FrameCodec.{rec_c}
use Rattle.queue.specs.layout.FormsCodec.{queue_c}
use Rattle.queue.specs.layout.HeadAs.{queue_of, MarksFit}
use Rattle.queue.specs.theorems.Arguments as arguments
use Rattle.queue.specs.change.FinishAs.{picked, end_state, end_reason}
use Rattle.queue.specs.read.FindAs.{recs_in}
use Rattle.queue.specs.change.TouchAs.{entry_in, VerdictNumbers}
use Rattle.queue.specs.change.VerdictAs.{verdict_code}
use Rattle.queue.specs.paper.Records.{Bytes, Id, Rec, Queue}
use Rattle.queue.specs.paper.Lists.{filter}
use Rattle.queue.specs.paper.Sound.{holder?}
use Rattle.queue.specs.paper.Changing.{withdrawn_mark, remade, finish_those}
use Rattle.queue.specs.declared.check.area.Area.{Area}
use Rattle.queue.specs.declared.change.finish.Change.{Change}
use Rattle.queue.specs.declared.layout.frame.Seen.{Seen}
use Rattle.queue.specs.declared.layout.frame.Facts.{Facts}
use Rattle.queue.specs.declared.layout.head.Marks.{Marks}
use Rattle.queue.specs.declared.change.plan.Row.{Row}

-- ---- a row

-- a row as numbers: where its record stands, which of the area's records it is, its rank among the finished, and what becomes of it
pub record RowNumbers : Type 0 where
  pub place : ℕ
  pub index : ℕ
  pub rank : ℕ
  pub what : ℕ

abbrev pub row_numbers : Row → RowNumbers
row_numbers x = record { place = x.place; index = x.index; rank = x.rank; what = verdict_code x.what }

-- a row in one number: where its record stands, which of the area's records it is, its rank among the finished, and what becomes of it
unfoldable pub row_of : ℕ → RowNumbers
row_of w = record { place = w / 134217728; index = w / 32768 % 4096; rank = w / 8 % 4096; what = w % 8 }

-- its numbers fit their parts
pub record Packs (x : RowNumbers) : Type 0 where
  pub place : x.place < 4294967296
  pub index : x.index < 4096
  pub rank : x.rank < 4096
  pub what : x.what < 8

-- a record that no row is needed for: it stays as it is
unfoldable pub idle? : RowNumbers → Bool
idle? x = eqb x.what 0 && eqb x.rank 0

-- a row was put behind k others, if one is needed
pub record RowAdded (x : RowNumbers) (k : ℕ) (d : List ℕ) (r : ℕ) (d' : List ℕ) : Type 0 where
  pub w : ℕ
  pub is : row_of w ≡ x
  pub rows : take r d' ≡ take k d ++ cond (idle? x) [] (w ∷ [])
  pub most : r ≤ k + 1
  pub long : length d' ≡ length d

-- ---- what becomes of a record

-- the state and the reason of a record that is reopened
unfoldable pub state_f : Facts → ℕ
state_f f = cond (eqb f.mark 0) (cond f.holder 0 5) (cond (eqb f.mark 4) 4 5)

unfoldable pub reason_f : Facts → ℕ
reason_f f = cond (eqb f.mark 0) (cond f.holder 4 3) (cond (eqb f.mark 4) 1 (cond (eqb f.mark 5) 2 3))

-- state, reason and mark after a verdict, by what it is and the finish number that the record gets, 0 for none; a record that is released is Mined
abbrev pub state_j : ℕ → ℕ → Facts → ℕ
state_j what n f = cond (eqb n 0) (cond (eqb what 0) f.state (cond (eqb what 1) 2 (cond (eqb what 2) 0 3))) 2

abbrev pub reason_j : ℕ → ℕ → Facts → ℕ
reason_j what n f = cond (eqb n 0) (cond (eqb what 0) f.reason (cond (eqb what 1) 0 (cond (eqb what 2) 0 5))) 0

unfoldable pub state_n : ℕ → ℕ → Facts → ℕ
state_n what n f = cond (eqb what 4) (state_f f) (cond (eqb what 5) 4 (cond (eqb what 6) 5 (state_j what n f)))

unfoldable pub reason_n : ℕ → ℕ → Facts → ℕ
reason_n what n f = cond (eqb what 4) (reason_f f) (cond (eqb what 5) 1 (cond (eqb what 6) 2 (reason_j what n f)))

unfoldable pub mark_n : ℕ → Facts → ℕ
mark_n what f = cond (eqb what 1) (withdrawn_mark f.state f.reason f.mark) (cond (eqb what 4) 0 f.mark)

-- its place: the applied entry's, none, or its own
unfoldable pub place_after : Bytes → VerdictNumbers → Option (ℕ × Id) → Option (ℕ × Id)
place_after t v o = cond (eqb v.what 1) (some ((entry_in t v.at).height, (entry_in t v.at).block)) (cond (eqb v.what 4) none o)

unfoldable pub becomes : Bytes → VerdictNumbers → ℕ → Rec → Rec
becomes t v n r =
    remade (state_n v.what n (facts_of r)) (reason_n v.what n (facts_of r)) (place_after t v r.place) (mark_n v.what (facts_of r))
    (cond (eqb n 0) r.finish n) (cond (eqb n 0) r.body none) r

-- the finish number of a record by its rank among the finished, after c; 0 for one that is not
unfoldable pub number_n : ℕ → ℕ → ℕ
number_n c r = cond (eqb r 0) 0 (c + r)

-- a row's verdict: the number of the applied entry is in the record's own verdict
abbrev pub verdict_in_value : List ℕ → RowNumbers → VerdictNumbers
verdict_in_value vs x = record { what = x.what; at = cond (eqb x.what 1) (68 * (get_or vs x.index 0 / 4)) 0 }

-- what a row makes of its record
unfoldable pub made : Bytes → List ℕ → ℕ → RowNumbers → Rec → List Rec
made t vs c x r = cond (eqb x.what 7) [] (becomes t (verdict_in_value vs x) (number_n c x.rank) r ∷ [])

-- where a row names an applied entry, its record's verdict has that entry's number, and the entry stands in t
abbrev pub EntryFit : Bytes → List ℕ → RowNumbers → Type 0
EntryFit t vs x = x.what ≡ 1 → (x.index < length vs) × (get_or vs x.index 0 % 4 ≡ 1) × (68 * (get_or vs x.index 0 / 4) + 68 ≤ length t)

-- and there is a finish number for its record
pub record RowFit (t : Bytes) (vs : List ℕ) (c : ℕ) (x : RowNumbers) : Type 0 where
  pub entry : EntryFit t vs x
  pub number : c + x.rank < 18446744073709551616

-- ---- the records with their rows

module _ (F : ℕ → Rec → List Rec) where
  -- the records that stand from `at` on, each with its row's change
  unfoldable pub edited : ℕ → List Rec → List ℕ → List Rec
  edited at [] rows = []
  edited at (r ∷ l) [] = r ∷ l
  edited at (r ∷ l) (w ∷ rows) =
      cond (eqb (row_of w).place at) (F w r ++ edited (at + length (rec_c.enc r)) l rows) (r ∷ edited (at + length (rec_c.enc r)) l (w ∷ rows))

module _ (P : ℕ → Type 0) where
  -- each row stands at a record of theirs, in their order
  abbrev pub RowsAt : ℕ → List Rec → List ℕ → Type 0
  RowsAt at [] [] = Unit {0}
  RowsAt at [] (w ∷ rows) = ⊥
  RowsAt at (r ∷ l) [] = Unit {0}
  RowsAt at (r ∷ l) (w ∷ rows) =
      (((row_of w).place ≡ at) × P w × RowsAt (at + length (rec_c.enc r)) l rows)
      ⊎ ((at + length (rec_c.enc r) ≤ (row_of w).place) × RowsAt (at + length (rec_c.enc r)) l (w ∷ rows))

-- with the numbers after c
abbrev pub row_made : ℕ → Bytes → List ℕ → ℕ → Rec → List Rec
row_made c t vs w r = made t vs c (row_of w) r

abbrev pub RowFits : ℕ → Bytes → List ℕ → ℕ → Type 0
RowFits c t vs w = RowFit t vs c (row_of w)

-- those of an area that was opened
abbrev pub planned_in : Bytes → Area → Bytes → List ℕ → List ℕ → List Rec
planned_in s a t vs rows = edited (row_made a.open.head.counter.0 t vs) a.open.start (recs_in s a) rows

abbrev pub RowsIn : Bytes → Area → Bytes → List ℕ → List ℕ → Type 0
RowsIn s a t vs rows = RowsAt (RowFits a.open.head.counter.0 t vs) a.open.start (recs_in s a) rows

-- the queue with that front and the records that come of the rows
abbrev pub planned_q : Bytes → Area → Marks → Bytes → List ℕ → List ℕ → Queue
planned_q s a m t vs rows = queue_of (limits_in a.open.head.limits) m (planned_in s a t vs rows)

-- a was read from s; rows are of its records, and what comes of them fits
pub record PlanFor (s : Bytes) (a : Area) (m : Marks) (t : Bytes) (vs rows : List ℕ) : Type 0 where
  pub area : AreaIn s a
  pub bytes : arguments.Small t
  pub fit : RowsIn s a t vs rows
  pub count : m.count ≡ length (planned_in s a t vs rows)
  pub small : MarksFit m
  pub fits : length (queue_c.enc (planned_q s a m t vs rows)) ≤ a.need

-- a planner's rows: they are of the area's records, these come of them, and there are so many of these
pub record Planned (s : Bytes) (a : Area) (t : Bytes) (vs rows : List ℕ) (l : List Rec) (kept : ℕ) : Type 0 where
  pub fit : RowsIn s a t vs rows
  pub are : planned_in s a t vs rows ≡ l
  pub count : kept ≡ length l
  pub few : kept ≤ a.open.head.count

-- ---- bytes

-- a record's bytes up to its terms
unfoldable pub lead_bytes : Id → ℕ → ℕ → ℕ → Bytes
lead_bytes id caller state reason = ((((2 ∷ []) ++ id) ++ be_last 1 caller) ++ be_last 1 state) ++ be_last 1 reason

-- of its place, and of what stands behind its mark
unfoldable pub place_n : Bytes → ℕ → Seen → Bytes → VerdictNumbers → Bytes
place_n s base x t v =
    cond (eqb v.what 1) (1 ∷ take 36 (drop (v.at + 32) t)) (cond (eqb v.what 4) (0 ∷ []) (take (x.mark - x.after) (drop (base + x.after) s)))

abbrev pub place_len : Seen → VerdictNumbers → ℕ
place_len x v = cond (eqb v.what 1) 37 (cond (eqb v.what 4) 1 (x.mark - x.after))

unfoldable pub tail_n : Bytes → ℕ → Seen → ℕ → Bytes
tail_n s base x n = cond (eqb n 0) (take (x.size - (x.mark + 1)) (drop (base + (x.mark + 1)) s)) (be_last 8 n ++ (0 ∷ []))

abbrev pub tail_len : Seen → ℕ → ℕ
tail_len x n = cond (eqb n 0) (x.size - (x.mark + 1)) 9

unfoldable pub next_bytes : Bytes → ℕ → Seen → Bytes → VerdictNumbers → ℕ → Bytes
next_bytes s base x t v n =
    (((lead_bytes x.id x.facts.caller (state_n v.what n x.facts) (reason_n v.what n x.facts) ++ take (x.after - terms_at) (drop (base + terms_at) s)) ++ place_n s base x t v)
    ++ be_last 1 (mark_n v.what x.facts)) ++ tail_n s base x n

abbrev pub next_len : Seen → VerdictNumbers → ℕ → ℕ
next_len x v n = x.after + (place_len x v + (1 + tail_len x n))

unfoldable pub step_n : Bytes → ℕ → Seen → Bytes → VerdictNumbers → ℕ → Bytes
step_n s base x t v n = cond (eqb v.what 7) [] (next_bytes s base x t v n)

-- the parts of a record that was read stand in their order, and in s
pub record PartsIn (s : Bytes) (base : ℕ) (x : Seen) : Type 0 where
  pub id : length x.id ≡ 32
  pub up : terms_at ≤ x.after
  pub up_place : x.after ≤ x.mark
  pub up_body : x.mark + 10 ≤ x.size
  pub within : base + x.size ≤ length s

-- ---- staying

-- a record that gets a number stays if that is not below the floor; any other one if it is a holder, or its own is not
unfoldable pub stay_f : ℕ → ℕ → Facts → Bool
stay_f n floor f = cond (eqb n 0) (f.holder || leb floor f.finish.0) (leb floor n)

abbrev pub stay_r : ℕ → Rec → Bool
stay_r floor y = holder? y || leb floor y.finish

-- the records of an area with those picked finished, and without those below the floor
abbrev pub ended_l : Bytes → Area → Change → Id → ℕ → List Rec
ended_l s a c id floor = filter (stay_r floor) (finish_those (picked c id) (end_state c) (end_reason c) a.open.head.counter.0 (recs_in s a))
