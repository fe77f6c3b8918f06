-- Document 02, P1, "Withdrawn stays withdrawn": "Pools cancel a payment and pay by another road, so an old payment in a block pays
-- twice. State over every list of calls, failed writes and cuts as in the base: once a cancellation or an expiry was kept, that
-- id is in no selection until a later admission of that id was kept. A write cut after its rename counts as kept here, for
-- withdrawals and admissions alike."
--
-- It is said twice: by a history of who was withdrawn and not admitted since (`WithdrawnUnselected`), and in the words of the
-- request (`WithdrawnStays`).
--
-- What is not claimed:
-- * Of a withdrawal whose write failed, or was cut before its rename, nothing: the record is as it was, and selected as it was.
-- * Nor of one that was refused, or of kind 0: nothing was written, so nothing was kept.
-- * While a withdrawal is being written, the current area still selects the id; the next area is not the queue before settling.
--   The selection meant is that of the queue which a step leaves: of the area that the next call gets.
-- * A record that was released and then rolled back is Expired with reason 3; no cancellation or expiry made it so.
-- * Nothing is said of blocks that were made before: a block may still confirm a withdrawn id.
use Rattle.std.specs.Prelude.{◌≡◌, Bool, true, false, cond, not, List, [], ◌∷◌, ◌++◌, ℕ, length}
use Rattle.std.proofs.Math.Option.{Option, none, some}
use Rattle.queue.specs.paper.Records.{Bytes, Id, Limits, Queue}
use Rattle.queue.specs.paper.Lists.{maybe, filter, map}
use Rattle.queue.specs.paper.Sound.{among?}
use Rattle.queue.specs.paper.Changing.{due?}
use Rattle.queue.specs.paper.Reading.{selection_at}
use Rattle.queue.specs.paper.Calls.{ids_bytes, Call, admitting, cancelling, expiring, reconciling, reopening, setting_cursor, work, by_kind, told_out, selection_at_of}
use Rattle.queue.specs.paper.Fees.{best_fees_value, candidates, size_of, fee_of}
use Rattle.queue.specs.paper.Parents.{parents_first_at}
use Rattle.pokerbox.specs.paper.Machine.{Fate, kept, failed, cut_before, cut_after, Step, call, cut, run, Plain, restart, plain_step}
use Rattle.pokerbox.specs.paper.Claim.{Always}

-- ---- whom a call withdraws, and whom it admits

-- "a cancellation or an expiry .. that id": the cancelled id; each id that an expiry finishes, also one that T makes it forget in
-- the same call
abbrev pub withdraws : Call → Queue → List Id
withdraws (admitting a) q = []
withdraws (cancelling i) q = i ∷ []
withdraws (expiring now height) q = map (λ r. r.id) (filter (due? now height) q.recs)
withdraws (reconciling a) q = []
withdraws (reopening ids) q = []
withdraws (setting_cursor height flag tip) q = []

-- "admission of that id"
abbrev pub admits : Call → Queue → List Id
admits (admitting a) q = a.id ∷ []
admits (cancelling i) q = []
admits (expiring now height) q = []
admits (reconciling a) q = []
admits (reopening ids) q = []
admits (setting_cursor height flag tip) q = []

-- ---- the history

-- Who was withdrawn and not admitted since: beside the queue, and beside the stored queue, if there is one.
pub record History : Type 0 where
  pub now : List Id
  pub stored : Option (List Id)

-- with a write of this call: those that it withdraws, and of the others all but those that it admits
abbrev pub with_write : Call → Queue → List Id → List Id
with_write c q l = withdraws c q ++ filter (λ i. not (among? i (admits c q))) l

-- a fresh queue or a cut: those beside the stored queue; nothing stored, nobody
abbrev pub resumed : Option (List Id) → History
resumed o = record { now = maybe [] (λ l. l) o; stored = o }

-- a write that is due, l being who is withdrawn with it: "was kept", and "a write cut after its rename counts as kept here"
abbrev pub noted : History → List Id → Fate → History
noted h l kept = record { now = l; stored = some l }
noted h l (failed second) = h
noted h l (cut_before second) = resumed h.stored
noted h l cut_after = resumed (some l)

-- Refusals, kind 0 and kind 1 write nothing. Kind 2 is a whole write. Kind 3 writes the cursor and changes no record: nobody is
-- withdrawn or admitted by it.
abbrev pub history_by : Plain → History → Step → History
history_by p h (call c l fate) =
    by_kind (work c p.queue (length l.next) (length l.out)).answer h h (noted h (with_write c p.queue h.now) fate) (noted h h.now fate)
history_by p h (cut l) = resumed h.stored

abbrev pub history : Limits → Plain → History → List Step → History
history m p h [] = h
history m p h (x ∷ xs) = history m (plain_step m p x).1 (history_by p h x) xs

-- ---- the claim

-- "that id is in no selection": it is not among the ids that the selection answers on the bytes in the area, at any time and
-- height; nor in the set that `best_fees` answers there (`BestSets`), for any limit and budget; nor in the list that
-- `selection_parents_first` answers there (`OrderedLists`).
pub record NotSelected (area : Bytes) (q : Queue) (i : Id) : Type 0 where
  pub told : (now height : ℕ) (out : Bytes) → selection_at_of area now height out ≡ told_out (ids_bytes (selection_at now height q)) out
  pub absent : (now height : ℕ) → among? i (selection_at now height q) ≡ false
  pub absent_best : (limit budget now height : ℕ) → among? i (map (λ r. r.id) (best_fees_value size_of fee_of (candidates now height q) limit budget).set) ≡ false
  pub absent_first : (now height : ℕ) → among? i (map (λ r. r.id) (parents_first_at now height q)) ≡ false

-- After every list nobody of the history is selected.
unfoldable pub WithdrawnUnselected : Type 0
WithdrawnUnselected = Always λ m xs v p. (i : Id) → among? i (history m (restart m none) (resumed none) xs).now ≡ true → NotSelected v.1.area p.1.queue i

-- ---- the same without a history

-- "A write cut after its rename counts as kept here"
abbrev pub kept_here? : Fate → Bool
kept_here? kept = true
kept_here? (failed second) = false
kept_here? (cut_before second) = false
kept_here? cut_after = true

-- the ids of a withdrawal (f is `withdraws`), or of an admission (`admits`), that was kept in this step: kind 2, with such an
-- outcome
abbrev pub kept_ids : (Call → Queue → List Id) → Plain → Step → List Id
kept_ids f p (call c l fate) =
    by_kind (work c p.queue (length l.next) (length l.out)).answer [] [] (cond (kept_here? fate) (f c p.queue) []) []
kept_ids f p (cut l) = []

-- no "later admission of that id was kept"
abbrev pub NotAdmitted : Limits → Plain → Id → List Step → Type 0
NotAdmitted m p i [] = Unit {0}
NotAdmitted m p i (x ∷ xs) = (among? i (kept_ids admits p x) ≡ false) × NotAdmitted m (plain_step m p x).1 i xs

-- where the machine stands after a list
abbrev pub after : Limits → List Step → Plain
after m xs = (run (plain_step m) (restart m none) xs).1

-- "once a cancellation or an expiry was kept" in a step x of the list, "that id is in no selection until a later admission of
-- that id was kept" in a step of ys
unfoldable pub WithdrawnStays : Type 0
WithdrawnStays = Always λ m list v p. (xs : List Step) (x : Step) (ys : List Step) (i : Id) → list ≡ xs ++ (x ∷ ys)
    → among? i (kept_ids withdraws (after m xs) x) ≡ true → NotAdmitted m (plain_step m (after m xs) x).1 i ys → NotSelected v.1.area p.1.queue i
