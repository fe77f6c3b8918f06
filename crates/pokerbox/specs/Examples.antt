-- A short list of steps, run on both machines: that the claim speaks of something.
use Rattle.std.specs.Prelude.{◌≡◌, refl, Bool, true, false, List, [], ◌∷◌, ℕ, zero, suc, ◌<◌, ◌≤◌, length, take, replicate}
use Rattle.std.proofs.Common.{ap, ◌∙◌, arith}
use Rattle.std.proofs.Math.Option.{Option, none, some}
use Rattle.std.proofs.lemmas.List.{length-replicate}
use Rattle.queue.specs.paper.Answer.{Answer}
use Rattle.queue.specs.Codec.{All}
use Rattle.queue.specs.paper.Records.{Bytes, Limits}
use Rattle.queue.specs.paper.Lists.{map}
use Rattle.queue.specs.paper.Ids.{cmp_l, rise?}
use Rattle.queue.specs.paper.Kinds.{first_share}
use Rattle.queue.specs.paper.Sound.{in_range, shares_right?, limits_right?, need, used?, clash?, read?, crossed?}
use Rattle.queue.specs.paper.Area.{terms_under, place_bytes}
use Rattle.queue.specs.paper.Changing.{committed, moved, new_rec, admit, finished, finish_those, forget, cancel, reconcile, touch, releases, touched_recs, to_release}
use Rattle.queue.specs.paper.Calls.{number, items, entry_bytes, ids_bytes, released_bytes, Call, admitting, cancelling, reconciling, work}
use Rattle.pokerbox.specs.paper.Machine.{kept, failed, cut_before, cut_after, Lent, Step, call, cut, Told, run, Plain, restart, plain_step, World, world_step}
use Rattle.pokerbox.specs.paper.Claim.{Small, CallOk, moved_last, Holds, Image, Claim}
use Rattle.pokerbox.specs.Runs.{image_cursor}
use Rattle.pokerbox.specs.Theorem.{the_claim, image_room, RoomyOk, roomy, world}

abbrev m : Limits
m = record { P = 1; B = 4; T = 1; K = 1; shares = first_share 1 }

-- enough of each
abbrev lent : Lent
lent = record { next = replicate 2248 0; out = replicate 300 0; text = replicate 4500 0; other = replicate 2248 0 }

-- a next area too short
abbrev short : Lent
short = record { next = replicate 2247 0; out = replicate 300 0; text = replicate 4500 0; other = replicate 2248 0 }

abbrev id : ℕ → Bytes
id n = replicate 32 n

abbrev enters : ℕ → Call
enters n = admitting (record {
  id = id n;
  caller = 0;
  inputs = id 9;
  outputs = [];
  reads = [];
  bytes = 1 ∷ 2 ∷ 3 ∷ [];
  now = 5;
  time_flag = 0;
  time = 0;
  height_flag = 0;
  height = 0;
  priority = 0;
  label_flag = 0;
  label = [];
  fee = 0;
  cost = 0;
  tip_height = 100;
  tip_flag = 0;
  tip = [];
})

abbrev seen : ℕ → Call
seen height = reconciling (record { height = height; tip = id 8; applied = []; caught_up = 0; available = []; window = 100 })

-- an admission whose write fails, one that is kept, one with a next area too short; a reconciliation that stays in memory; a
-- cancellation cut before its rename, then one cut after it; a cut between calls; a cursor write that fails
abbrev steps : List Step
steps =
    call (enters 1) lent (failed none)
    ∷ call (enters 1) lent kept
    ∷ call (enters 2) short kept
    ∷ call (seen 131) lent kept
    ∷ call (cancelling (id 1)) lent (cut_before (some (1 ∷ [])))
    ∷ call (cancelling (id 1)) lent cut_after
    ∷ cut lent
    ∷ call (seen 132) lent (failed (some []))
    ∷ []

-- the number of a call's answer, and of settling's (0 where nothing was settled)
abbrev pub settled_number : Option Answer → ℕ
settled_number none = 0
settled_number (some a) = number a

abbrev pub numbers : Told → ℕ × ℕ
numbers t = (number t.answer, settled_number t.settled)

abbrev start : Plain
start = restart m none

abbrev wanted : List (ℕ × ℕ)
wanted = (102, 17) ∷ (102, 100) ∷ (2, 0) ∷ (101, 0) ∷ (102, 0) ∷ (102, 0) ∷ (100, 0) ∷ (103, 17) ∷ []

-- whether a successful reconciliation moved the cursor last, the cursor, the image's; the records' states
abbrev Shown : Type 0
Shown = (Bool × (ℕ × ℕ)) × List ℕ

abbrev shown : List Step → Shown
shown xs =
    let p = (run (plain_step m) start xs).1 in
    ((moved_last m start false xs, (p.queue.cursor, image_cursor p.stored)), map (λ r. r.state) p.queue.recs)

abbrev all : List (ℕ × ℕ) × List Shown
all = (map numbers (run (plain_step m) start steps).0, map shown (take 4 steps ∷ take 5 steps ∷ steps ∷ []))

-- After four steps the bound is reached, 131 to 100. After the cut before the rename the record is pending still, at 100; at the
-- end it is cancelled, and nothing is claimed of the cursor.
plain_says : all ≡ (wanted, ((true, (131, 100)), 0 ∷ []) ∷ ((false, (100, 100)), 0 ∷ []) ∷ ((false, (132, 100)), 4 ∷ []) ∷ [])
unfolding plain_step work admit cancel reconcile need clash? read? crossed? items used? entry_bytes new_rec terms_under place_bytes committed cmp_l rise? touched_recs to_release releases touch released_bytes ids_bytes moved finished finish_those forget
plain_says = refl

-- ---- the claim of this list

pub small : (n b : ℕ) → b < 256 → Small (replicate n b)
small zero b h = tt
small (suc n) b h = (h, small n b h)

needs : need m ≡ 2248
unfolding need
needs = refl

text_room : image_room m ≤ length lent.text
text_room = let a = needs in let b = length-replicate {A = ℕ} 4500 0 in omega arith

other_room : need m ≤ length lent.other
other_room = let a = needs in let b = length-replicate {A = ℕ} 2248 0 in omega arith

enters_ok : (n : ℕ) → n < 256 → CallOk (enters n)
enters_ok n h = (
  (small 32 n h, (small 32 9 (omega arith), (tt, (tt, ((omega arith, (omega arith, (omega arith, tt))), (tt, tt)))))),
  (omega arith, (omega arith, (omega arith, (omega arith, (omega arith, (omega arith, omega arith)))))),
)

seen_ok : (height : ℕ) → height < 4294967296 → CallOk (seen height)
seen_ok height h = ((small 32 8 (omega arith), (tt, tt)), (h, omega arith))

roomed : {X : Type 0} → X → X × ((image_room m ≤ length lent.text) × (need m ≤ length lent.other))
roomed x = (x, (text_room, other_room))

steps_ok : All (RoomyOk m) steps
steps_ok =
    let a = roomed (enters_ok 1 (omega arith)) in
    let b = roomed (enters_ok 2 (omega arith)) in
    let c = roomed (small 32 1 (omega arith)) in
    let d = roomed (seen_ok 131 (omega arith)) in
    let e = roomed (seen_ok 132 (omega arith)) in
    (a, (a, (b, (d, (c, (c, (other_room, (e, tt))))))))

abbrev began : World
began = world m (replicate 2248 0) none

range : limits_right? m ≡ true
unfolding in_range shares_right?
range = refl

pub holds : Holds m none Image steps (run (world_step m) began steps) (run (plain_step m) start steps)
unfolding Claim
holds = the_claim m (replicate 2248 0) none steps range other_room (roomy m steps range steps_ok)

-- so the run on bytes says the same
pub bytes_say : map numbers (run (world_step m) began steps).0 ≡ wanted
bytes_say = ap (map numbers) holds.answers ∙ ap (λ z. z.0) plain_says
