-- Document 01, "The plain machine": a queue, and a stored queue or nothing; then the same list of steps on bytes and files.
use Rattle.std.proofs.Math.Option.{Option, none, some}
use Rattle.std.specs.Prelude.{List, [], ◌∷◌, ℕ, length, take}
use Rattle.queue.specs.declared.Kind.TheVariants.{Nothing}
use Rattle.queue.specs.paper.Answer.{Answer, Refused, Done}
use Rattle.queue.specs.paper.Records.{Bytes, Limits, Queue}
use Rattle.queue.specs.paper.Lists.{maybe}
use Rattle.queue.specs.paper.Area.{shares_bytes, over}
use Rattle.queue.specs.paper.Changing.{moved}
use Rattle.queue.specs.paper.Calls.{Call, work, by_kind, call_of, fresh, fresh_of, settle_of}
use Rattle.image.specs.paper.Image.{image_of, open_of}

-- "the outcome of each write": kept, failed, cut before the rename or after it. "Cut before the rename, the second file may hold
-- anything", and so it may after a failed write.
pub data Fate : Type 0 where
  kept cut_after : Fate
  failed cut_before : Option Bytes → Fate

-- What the node lends in a step: the next area and the output to the call; the output to the image writer, should a write be
-- due; the area to opening or to a fresh queue, should there be a cut.
pub record Lent : Type 0 where
  pub next : Bytes
  pub out : Bytes
  pub text : Bytes
  pub other : Bytes

-- a call with the outcome of its write, should one be due; or a cut between calls
pub data Step : Type 0 where
  call : Call → Lent → Fate → Step
  cut : Lent → Step

-- What a step answers: the call's answer, the output as the call left it, and settling's answer where a write was settled. A cut
-- between calls answers nothing.
pub record Told : Type 0 where
  pub answer : Answer
  pub out : Bytes
  pub settled : Option Answer

abbrev pub tells : {S : Type 0} → Answer → Bytes → Option Answer × S → Told × S
tells a out s = (record { answer = a; out = out; settled = s.0 }, s.1)

-- every step of a list, with what each answers
abbrev pub run : {S : Type 0} → (S → Step → Told × S) → S → List Step → List Told × S
run step s [] = ([], s)
run step s (x ∷ xs) = ((step s x).0 ∷ (run step (step s x).1 xs).0, (run step (step s x).1 xs).1)

-- ---- the plain machine

-- "State: a queue, and a stored queue or nothing."
pub record Plain : Type 0 where
  pub queue : Queue
  pub stored : Option Queue

-- "A cut .. is followed by opening, or by a fresh queue under the limits that the list began with if nothing is stored"; opening
-- "sets persisted to the cursor height"
abbrev pub restart : Limits → Option Queue → Plain
restart m none = record { queue = fresh m; stored = none }
restart m (some q) = record { queue = moved q.cursor q.cursor q.tip q; stored = some q }

-- "Kept: both become next. Failed: stored as before, answer 17; after kind 2 the queue is as before, after kind 3 it is next
-- with the old persisted height. Cut: .. before the rename stored is old, after it next." lost: the queue after a failed write
abbrev pub wrote : Limits → Plain → Queue → Queue → Fate → Option Answer × Plain
wrote m p next lost kept = (some (Done Nothing), record { queue = next; stored = some next })
wrote m p next lost (failed second) = (some (Refused 17), record { queue = lost; stored = p.stored })
wrote m p next lost (cut_before second) = (none, restart m p.stored)
wrote m p next lost cut_after = (none, restart m (some next))

-- "Refusals other than 17, and kind 0, move neither." "Kind 1: the queue becomes next, stored stays."
abbrev pub settling : Limits → Plain → Queue → Fate → Answer → Option Answer × Plain
settling m p next fate a = by_kind a (none, p) (none, record { queue = next; stored = p.stored })
    (wrote m p next p.queue fate) (wrote m p next (moved p.queue.persisted next.cursor next.tip next) fate)

unfoldable pub plain_step : Limits → Plain → Step → Told × Plain
plain_step m p (call c l fate) =
    let w = work c p.queue (length l.next) (length l.out) in tells w.answer (over w.bytes l.out) (settling m p w.next fate w.answer)
plain_step m p (cut l) = tells (Done Nothing) l.out (none, restart m p.stored)

-- ---- the same on bytes: what the exported calls' contracts say, and the two files

pub record World : Type 0 where
  pub area : Bytes
  pub file : Option Bytes
  pub second : Option Bytes

-- "a write fills the second file with exactly what the image writer gives for the next area"
unfoldable pub image_text : Bytes → Bytes → Bytes
image_text area text = let w = (image_of area text 0).1 in take w.1 w.0

-- a fresh queue under limits and shares, which are lent as a header has them
unfoldable pub fresh_under : Limits → Bytes → Answer × Bytes
fresh_under m other = fresh_of m.P m.B m.T m.K (shares_bytes m.shares) other

-- "Opening reads the first file alone, all of it." Document 02, P8: "after a cut with nothing stored, those" shares "that the list began
-- with"
unfoldable pub starts : Limits → Option Bytes → Bytes → Answer × Bytes
starts m file other = maybe (fresh_under m other) (λ text. open_of text other) file

abbrev pub restarted : Limits → Bytes → Option Bytes → Option Bytes → World
restarted m other file second = record { area = (starts m file other).1; file = file; second = second }

-- "then renames it over the first". "Each call gets the queue that the last one left: in the same area after kind 0 or a refusal
-- other than 17, in the next area after kind 1 or settling, after a cut in the area where opening or the fresh queue was written."
abbrev pub settled_in : Answer × Bytes → Option Bytes → Option Bytes → Option Answer × World
settled_in s file second = (some s.0, record { area = s.1; file = file; second = second })

abbrev pub wrote_bytes : Limits → World → Lent → Bytes → ℕ → Fate → Option Answer × World
wrote_bytes m w l next kind kept = settled_in (settle_of w.area next kind 0) (some (image_text next l.text)) none
wrote_bytes m w l next kind (failed second) = settled_in (settle_of w.area next kind 1) w.file second
wrote_bytes m w l next kind (cut_before second) = (none, restarted m l.other w.file second)
wrote_bytes m w l next kind cut_after = (none, restarted m l.other (some (image_text next l.text)) none)

abbrev pub settling_bytes : Limits → World → Lent → Bytes → Fate → Answer → Option Answer × World
settling_bytes m w l next fate a = by_kind a (none, w) (none, record { area = next; file = w.file; second = w.second })
    (wrote_bytes m w l next 2 fate) (wrote_bytes m w l next 3 fate)

unfoldable pub world_step : Limits → World → Step → Told × World
world_step m w (call c l fate) =
    let o = call_of c w.area l.next l.out in tells o.0 o.1.1 (settling_bytes m w l o.1.0 fate o.0)
world_step m w (cut l) = tells (Done Nothing) l.out (none, restarted m l.other w.file w.second)
