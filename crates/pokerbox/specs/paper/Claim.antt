-- Demand 3, as a single claim about the whole list; and what it means for a template.
use Rattle.std.specs.Prelude.{◌≡◌, Bool, true, false, cond, ◌&&◌, List, [], ◌∷◌, ◌++◌, ℕ, ◌+◌, ◌*◌, ◌≤◌, ◌<◌, eqb, length}
use Rattle.std.proofs.Math.Option.{Option, none, some}
use Rattle.queue.specs.declared.Kind.TheVariants.{Nothing}
use Rattle.queue.specs.paper.Answer.{Answer, Refused, Done}
use Rattle.queue.specs.Codec.{All}
use Rattle.queue.specs.Lists.{Sub}
use Rattle.queue.specs.Areas.{read_image}
use Rattle.queue.specs.paper.Records.{Bytes, Limits, Queue}
use Rattle.queue.specs.paper.Lists.{maybe, is_empty?, map}
use Rattle.queue.specs.paper.Sound.{limits_right?, need, holders, holder_bytes, tombstones, apart?, read_apart?, different?}
use Rattle.queue.specs.paper.Area.{area_bytes, image_bytes}
use Rattle.queue.specs.paper.Changing.{Reconciling}
use Rattle.queue.specs.paper.Decisions.{OnePass}
use Rattle.queue.specs.paper.Reading.{selected_at}
use Rattle.queue.specs.paper.Calls.{ids_bytes, Call, admitting, cancelling, expiring, reconciling, reopening, setting_cursor, work, by_kind, told_out, selection_at_of}
use Rattle.queue.specs.paper.Fees.{best_fees_value, candidates, size_of, fee_of, search_of, budget?, best_fees_of}
use Rattle.queue.specs.paper.Parents.{parents_first_at, parents_first_of, ParentsFirst}
use Rattle.image.specs.paper.Image.{open_of}
use Rattle.pokerbox.specs.paper.Machine.{Fate, kept, failed, cut_before, cut_after, Step, call, cut, Told, run, Plain, restart, plain_step, World, world_step, fresh_under, starts}

-- ---- which lists: any, as far as numbers fit their widths and bytes are bytes (a caller can lend nothing else), and "all
-- other areas, and the output lent to the image writer, are long enough"

abbrev pub Small : Bytes → Type 0
Small s = All (λ b. b < 256) s

abbrev pub CallOk : Call → Type 0
CallOk (admitting a) =
    (Small a.id × (Small a.inputs × (Small a.outputs × (Small a.reads × (Small a.bytes × (Small a.label × Small a.tip))))))
    × ((a.now < 18446744073709551616) × ((a.time < 18446744073709551616) × ((a.height < 4294967296) × ((a.priority < 18446744073709551616) × ((a.fee < 18446744073709551616) × ((a.cost < 18446744073709551616) × (a.tip_height < 4294967296)))))))
CallOk (cancelling i) = Small i
CallOk (expiring now height) = Unit {0}
CallOk (reconciling a) =
    (Small a.tip × (Small a.applied × Small a.available)) × ((a.height < 4294967296) × (a.window < 4294967296))
CallOk (reopening ids) = Small ids
CallOk (setting_cursor height flag tip) = Small tip × (height < 4294967296)

-- the output to the image writer, should a write be due; the area to opening or a fresh queue
abbrev pub StepOk : Limits → Plain → Step → Type 0
StepOk m p (call c l fate) =
    let w = work c p.queue (length l.next) (length l.out) in
    CallOk c × ((by_kind w.answer false false true true ≡ true → length (image_bytes w.next) ≤ length l.text) × (need m ≤ length l.other))
StepOk m p (cut l) = need m ≤ length l.other

-- each step, where the machine stands then
abbrev pub StepsOk : Limits → Plain → List Step → Type 0
StepsOk m p [] = Unit {0}
StepsOk m p (x ∷ xs) = StepOk m p x × StepsOk m (plain_step m p x).1 xs

-- ---- who moved the cursor last: "A reconciliation is successful with kind 1, or when its write is kept, or cut after its
-- rename. So nothing is claimed of a cursor that a cursor setting or a failed kind 3 moved last." The cursor is moved "by
-- opening or a fresh queue" too; "a call refused by another number than 17, or a failed kind 2, doesn't move it". But "at a
-- cut .. for next's if the rename had happened": next's cursor is also the one that opening then gives, so it is claimed on.

abbrev pub by_write : Bool → Bool → Fate → Bool
by_write new after_failed kept = new
by_write new after_failed (failed second) = after_failed
by_write new after_failed (cut_before second) = false
by_write new after_failed cut_after = new

abbrev pub by_answer : Bool → Bool → Fate → Answer → Bool
by_answer old new fate a = by_kind a old new (by_write new old fate) (by_write new false fate)

-- "by a cursor setting or a reconciliation, by an admission given a tip into no records"
abbrev pub mover : Call → Queue → Bool → Bool
mover (admitting a) q old = cond (is_empty? q.recs && eqb a.tip_flag 1) false old
mover (cancelling i) q old = old
mover (expiring now height) q old = old
mover (reconciling a) q old = true
mover (reopening ids) q old = old
mover (setting_cursor height flag tip) q old = false

-- whether a successful reconciliation moved it last
abbrev pub moved_by : Plain → Bool → Step → Bool
moved_by p old (call c l fate) = by_answer old (mover c p.queue old) fate (work c p.queue (length l.next) (length l.out)).answer
moved_by p old (cut l) = false

abbrev pub moved_last : Limits → Plain → Bool → List Step → Bool
moved_last m p old [] = old
moved_last m p old (x ∷ xs) = moved_last m (plain_step m p x).1 (moved_by p old x) xs

-- ---- the claim

-- After a list of steps, on bytes and files (v) and on the plain machine (p), which began with o stored: "All answers and the queue
-- equal those of document 01's plain machine, fed the same"; what the first file is to the machine's stored queue; and the bounds.
-- Nothing is claimed of the second file.
pub record Holds (m : Limits) (o : Option Queue) (File : Option Bytes → Option Queue → Type 0) (xs : List Step) (v : List Told × World) (p : List Told × Plain) : Type 0 where
  pub answers : v.0 ≡ p.0
  pub later : Bytes
  pub queue : v.1.area ≡ area_bytes p.1.queue ++ later
  pub file : File v.1.file p.1.stored
  -- "Opening what is stored, or starting fresh where nothing is, gives exactly the records of that machine's queue"
  pub opening : (other : Bytes) → need m ≤ length other → (rest : Bytes) × (starts m v.1.file other ≡ (Done Nothing, area_bytes (restart m p.1.stored).queue ++ rest))
  pub records : (restart m p.1.stored).queue.recs ≡ p.1.queue.recs
  -- "No input id is in two records. Holders number at most 2P with at most 2B signed bytes, tombstones at most T. A cursor last
  -- moved by a successful reconciliation is at most 31 blocks above the image's." "With nothing stored, the image's cursor counts
  -- as 0."
  pub limits : p.1.queue.limits ≡ m
  pub apart : apart? p.1.queue.recs ≡ true
  -- document 02, P11: "What survives a cut must also keep spent and read ids of two records from meeting."
  pub read_apart : read_apart? p.1.queue.recs ≡ true
  pub holders : holders p.1.queue.recs ≤ 2 * m.P
  pub bytes : holder_bytes p.1.queue.recs ≤ 2 * m.B
  pub tombstones : tombstones p.1.queue.recs ≤ m.T
  pub cursor : moved_last m (restart m o) false xs ≡ true → p.1.queue.cursor ≤ maybe 0 (λ q. q.cursor) p.1.stored + 31

-- "The queue starts fresh, under any limits in range" and any shares from 0 to P, "with nothing stored": the area, and no first file; the second may hold
-- anything. "For every list .." (every list, so every first part of one: the claim holds after each call and each cut)
abbrev pub Always : (Limits → List Step → List Told × World → List Told × Plain → Type 0) → Type 0
Always C = (m : Limits) (first : Bytes) (second : Option Bytes) (xs : List Step) → limits_right? m ≡ true → need m ≤ length first → StepsOk m (restart m none) xs
    → C m xs (run (world_step m) (record { area = (fresh_under m first).1; file = none; second = second }) xs) (run (plain_step m) (restart m none) xs)

-- The first file is "byte for byte the image of the machine's stored queue, or absent".
abbrev pub Image : Option Bytes → Option Queue → Type 0
Image file stored = file ≡ maybe none (λ q. some (image_bytes q)) stored

unfoldable pub Claim : Type 0
Claim = Always λ m xs v p. Holds m none Image xs v p

-- Document 02, P4: "those of kind 01 open with every value unchanged". A unit that starts from a text which opens as q, of whatever
-- kind, goes on as the plain machine with q stored. Its first file is that text until a write replaces it, and then as above.
pub record TextOr (text : Bytes) (q : Queue) (file : Option Bytes) (stored : Option Queue) : Type 0 where
  pub unwritten : Bool
  pub before : unwritten ≡ true → (file ≡ some text) × (stored ≡ some q)
  pub since : unwritten ≡ false → Image file stored

unfoldable pub FromImage : Type 0
FromImage = (m : Limits) (text : Bytes) (q : Queue) (first : Bytes) (second : Option Bytes) (xs : List Step)
    → read_image text ≡ some q → q.limits ≡ m → need m ≤ length first → StepsOk m (restart m (some q)) xs
    → Holds m (some q) (TextOr text q) xs (run (world_step m) (record { area = (open_of text first).1; file = some text; second = second }) xs) (run (plain_step m) (restart m (some q)) xs)

-- ---- "An input spent twice in a template voids the block, and the reward goes to another pool."

-- What the selection answers on the bytes in the area, for any time and height: the ids of some records of the queue. No id
-- stands there twice, no input id is in two of these records, and none of them spends what another reads (document 02, P11).
pub record Template (area : Bytes) (q : Queue) (now height : ℕ) : Type 0 where
  pub told : (out : Bytes) → selection_at_of area now height out ≡ told_out (ids_bytes (map (λ r. r.id) (selected_at now height q))) out
  pub once : different? (map (λ r. r.id) (selected_at now height q)) ≡ true
  pub apart : apart? (selected_at now height q) ≡ true
  pub read_apart : read_apart? (selected_at now height q) ≡ true

unfoldable pub Templates : Type 0
Templates = Always λ m xs v p. (now height : ℕ) → Template v.1.area p.1.queue now height

-- Document 02, P12: what `best_fees` answers on the bytes in the area, for any byte limit, budget, time and height, are the ids of
-- some of these records.
pub record BestSet (area : Bytes) (q : Queue) (limit budget now height : ℕ) : Type 0 where
  pub told : (out : Bytes)
      → best_fees_of area limit budget now height out ≡ cond (budget? budget) (search_of (candidates now height q) limit budget out) (Refused 5, out)
  pub part : Sub (best_fees_value size_of fee_of (candidates now height q) limit budget).set (selected_at now height q)
  pub once : different? (map (λ r. r.id) (best_fees_value size_of fee_of (candidates now height q) limit budget).set) ≡ true
  pub apart : apart? (best_fees_value size_of fee_of (candidates now height q) limit budget).set ≡ true
  pub read_apart : read_apart? (best_fees_value size_of fee_of (candidates now height q) limit budget).set ≡ true

unfoldable pub BestSets : Type 0
BestSets = Always λ m xs v p. (limit budget now height : ℕ) → BestSet v.1.area p.1.queue limit budget now height

-- Document 02, P7: what `selection_parents_first` answers on the bytes in the area, for any time and height: the ids of records as
-- the request promises them, no id twice, no input id in two of these records, and none of them spends what another reads.
pub record Ordered (area : Bytes) (q : Queue) (now height : ℕ) : Type 0 where
  pub told : (out : Bytes) → parents_first_of area now height out ≡ told_out (ids_bytes (map (λ r. r.id) (parents_first_at now height q))) out
  pub promised : ParentsFirst now height q
  pub once : different? (map (λ r. r.id) (parents_first_at now height q)) ≡ true
  pub apart : apart? (parents_first_at now height q) ≡ true
  pub read_apart : read_apart? (parents_first_at now height q) ≡ true

unfoldable pub OrderedLists : Type 0
OrderedLists = Always λ m xs v p. (now height : ℕ) → Ordered v.1.area p.1.queue now height

-- Document 02, P5: whatever came before, a reconciliation of the machine's queue, which is the one in the area, decides every Mined
-- holder exactly once.
unfoldable pub OnePasses : Type 0
OnePasses = Always λ m xs v p. (c : Reconciling) → OnePass c p.1.queue
