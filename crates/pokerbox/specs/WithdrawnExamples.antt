-- Short lists of steps for document 02, P1: that the claim speaks of something, and where it ends.
use Rattle.std.specs.Prelude.{◌≡◌, refl, true, List, [], ◌∷◌, ◌++◌, ℕ, ◌+◌, ◌≤◌, ◌<◌, length, replicate}
use Rattle.std.proofs.Math.Option.{none, some}
use Rattle.std.proofs.Common.{arith}
use Rattle.std.proofs.lemmas.List.{length-replicate}
use Rattle.queue.specs.Codec.{All, all_append}
use Rattle.queue.specs.paper.Records.{Bytes, Id, Limits}
use Rattle.queue.specs.paper.Lists.{map}
use Rattle.queue.specs.paper.Ids.{cmp_l, rise?}
use Rattle.queue.specs.paper.Kinds.{first_share}
use Rattle.queue.specs.paper.Sound.{in_range, shares_right?, limits_right?, need, used?, clash?, read?, crossed?}
use Rattle.queue.specs.paper.Area.{terms_under, place_bytes, be_val}
use Rattle.queue.specs.paper.Changing.{committed, moved, new_rec, admit, finished, finish_those, forget, cancel, due?, expire, confirm, touch, touched_recs, releases, to_release, reconcile, reopened, reopen}
use Rattle.queue.specs.paper.Reading.{selection_at}
use Rattle.queue.specs.paper.Calls.{items, entry_bytes, ids_bytes, released_bytes, Call, admitting, cancelling, expiring, reconciling, reopening, work, told_out, selection_at_of}
use Rattle.pokerbox.specs.paper.Machine.{kept, failed, cut_before, cut_after, Lent, Step, call, cut, run, restart, plain_step, world_step}
use Rattle.pokerbox.specs.paper.Claim.{CallOk}
use Rattle.pokerbox.specs.paper.Withdrawn.{resumed, history, after, NotSelected, WithdrawnUnselected, WithdrawnStays}
use Rattle.pokerbox.specs.Theorem.{image_room, RoomyOk, roomy, world}
use Rattle.pokerbox.specs.Withdrawing.{withdrawn_unselected, withdrawn_stays_withdrawn}
use Rattle.pokerbox.specs.Examples.{numbers, small}

-- T is 1
abbrev m : Limits
m = record { P = 2; B = 8; T = 1; K = 1; shares = first_share 2 }

-- enough of each
abbrev lent : Lent
lent = record { next = replicate 3472 0; out = replicate 300 0; text = replicate 6950 0; other = replicate 3472 0 }

abbrev id : ℕ → Bytes
id n = replicate 32 n

-- admission of the id n, n, ..; its time deadline is 10
abbrev enters : ℕ → Call
enters n = admitting (record {
  id = id n;
  caller = 0;
  inputs = id (100 + n);
  outputs = [];
  reads = [];
  bytes = 1 ∷ 2 ∷ 3 ∷ [];
  now = 5;
  time_flag = 1;
  time = 10;
  height_flag = 0;
  height = 0;
  priority = 0;
  label_flag = 0;
  label = [];
  fee = 0;
  cost = 0;
  tip_height = 100;
  tip_flag = 0;
  tip = [];
})

-- a block with the id 1, 1, .. at height 101; with window 0 its record is released at once
abbrev block : ℕ → Call
block window = reconciling (record { height = 101; tip = id 8; applied = id 1 ++ (0 ∷ 0 ∷ 0 ∷ 101 ∷ id 8); caught_up = 0; available = []; window = window })

abbrev cancels : Call
cancels = cancelling (id 1)

-- ---- the lists

-- cancelled, confirmed, admitted again (kind 0), rolled back
abbrev confirmed_again : List Step
confirmed_again = call (enters 1) lent kept ∷ call cancels lent kept ∷ call (block 100) lent kept ∷ call (enters 1) lent kept ∷ call (reopening (id 1)) lent kept ∷ []

-- two expire; T makes the call forget the first
abbrev both_expire : List Step
both_expire = call (enters 1) lent kept ∷ call (enters 2) lent kept ∷ call (expiring 10 0) lent kept ∷ []

-- the same, then a block that names the forgotten id, a rollback of it, and a cut
abbrev forgotten_named : List Step
forgotten_named = both_expire ++ (call (block 100) lent kept ∷ call (reopening (id 1)) lent kept ∷ cut lent ∷ [])

-- a cancellation with each outcome of its write: failed, cut before the rename, cut after it
abbrev with_failed : List Step
with_failed = call (enters 1) lent kept ∷ call cancels lent (failed none) ∷ []

abbrev with_cut_before : List Step
with_cut_before = call (enters 1) lent kept ∷ call cancels lent (cut_before (some (1 ∷ []))) ∷ []

abbrev with_cut_after : List Step
with_cut_after = call (enters 1) lent kept ∷ call cancels lent cut_after ∷ []

-- cancelled, and admitted again: with a failed write, and with one that is cut after its rename
abbrev again_failed : List Step
again_failed = call (enters 1) lent kept ∷ call cancels lent kept ∷ call (enters 1) lent (failed none) ∷ []

abbrev again_cut_after : List Step
again_cut_after = call (enters 1) lent kept ∷ call cancels lent kept ∷ call (enters 1) lent cut_after ∷ []

-- confirmed and released, rolled back (Expired with reason 3), then a cancellation of kind 0
abbrev nothing_to_cancel : List Step
nothing_to_cancel = call (enters 1) lent kept ∷ call (block 0) lent kept ∷ call (reopening (id 1)) lent kept ∷ call cancels lent kept ∷ []

-- ---- what they say

-- ids by their first byte
abbrev name : Id → ℕ
name [] = 0
name (n ∷ i) = n

-- the numbers of the answers and of settling; who is in the history; who is selected; the records' ids and states
abbrev Shown : Type 0
Shown = List (ℕ × ℕ) × ((List ℕ × List ℕ) × List (ℕ × ℕ))

abbrev shown : List Step → Shown
shown xs = (
  map numbers (run (plain_step m) (restart m none) xs).0,
  ((map name (history m (restart m none) (resumed none) xs).now, map name (selection_at 0 0 (after m xs).queue)), map (λ r. (name r.id, r.state)) (after m xs).queue.recs),
)

abbrev lists : List (List Step)
lists = confirmed_again ∷ both_expire ∷ forgotten_named ∷ with_failed ∷ with_cut_before ∷ with_cut_after ∷ again_failed ∷ again_cut_after ∷ nothing_to_cancel ∷ []

abbrev wanted : List Shown
wanted =
    ((102, 100) ∷ (102, 100) ∷ (102, 100) ∷ (100, 0) ∷ (102, 100) ∷ [], ((1 ∷ [], []), (1, 4) ∷ []))
    ∷ ((102, 100) ∷ (102, 100) ∷ (102, 100) ∷ [], ((1 ∷ 2 ∷ [], []), (2, 5) ∷ []))
    ∷ ((102, 100) ∷ (102, 100) ∷ (102, 100) ∷ (101, 0) ∷ (100, 0) ∷ (100, 0) ∷ [], ((1 ∷ 2 ∷ [], []), (2, 5) ∷ []))
    ∷ ((102, 100) ∷ (102, 17) ∷ [], (([], 1 ∷ []), (1, 0) ∷ []))
    ∷ ((102, 100) ∷ (102, 0) ∷ [], (([], 1 ∷ []), (1, 0) ∷ []))
    ∷ ((102, 100) ∷ (102, 0) ∷ [], ((1 ∷ [], []), (1, 4) ∷ []))
    ∷ ((102, 100) ∷ (102, 100) ∷ (102, 17) ∷ [], ((1 ∷ [], []), (1, 4) ∷ []))
    ∷ ((102, 100) ∷ (102, 100) ∷ (102, 0) ∷ [], (([], 1 ∷ []), (1, 0) ∷ []))
    ∷ ((102, 100) ∷ (102, 100) ∷ (102, 100) ∷ (100, 0) ∷ [], (([], []), (1, 5) ∷ []))
    ∷ []

-- An admission of kind 0 ends nothing; an expiry withdraws also whom it forgets; a withdrawal that failed or was cut before its
-- rename promises nothing, one cut after it does; an admission ends it once its rename has happened; a cancellation of kind 0
-- is none.
pub lists_say : map shown lists ≡ wanted
unfolding plain_step work admit cancel expire due? reconcile reopen reopened confirm need clash? read? crossed? items used? entry_bytes new_rec terms_under place_bytes be_val committed cmp_l rise? touched_recs to_release releases touch released_bytes ids_bytes moved finished finish_those forget selection_at
lists_say = refl

-- ---- the theorems on two of them

needs : need m ≡ 3472
unfolding need
needs = refl

text_room : image_room m ≤ length lent.text
text_room = let a = needs in let b = length-replicate {A = ℕ} 6950 0 in omega arith

other_room : need m ≤ length lent.other
other_room = let a = needs in let b = length-replicate {A = ℕ} 3472 0 in omega arith

range : limits_right? m ≡ true
unfolding in_range shares_right?
range = refl

enters_ok : (n : ℕ) → n < 100 → CallOk (enters n)
enters_ok n h = (
  (small 32 n (omega arith), (small 32 (100 + n) (omega arith), (tt, (tt, ((omega arith, (omega arith, (omega arith, tt))), (tt, tt)))))),
  (omega arith, (omega arith, (omega arith, (omega arith, (omega arith, (omega arith, omega arith)))))),
)

block_ok : CallOk (block 100)
block_ok = (
  (small 32 8 (omega arith), (all_append (λ b. b < 256) (id 1) (0 ∷ 0 ∷ 0 ∷ 101 ∷ id 8) (small 32 1 (omega arith)) (omega arith, (omega arith, (omega arith, (omega arith, small 32 8 (omega arith))))), tt)),
  (omega arith, omega arith),
)

roomed : {X : Type 0} → X → X × ((image_room m ≤ length lent.text) × (need m ≤ length lent.other))
roomed x = (x, (text_room, other_room))

again_ok : All (RoomyOk m) confirmed_again
again_ok =
    let a = roomed (enters_ok 1 (omega arith)) in
    let b = roomed (small 32 1 (omega arith)) in
    (a, (b, (roomed block_ok, (a, (b, tt)))))

-- where the lists begin, on bytes
abbrev area : List Step → Bytes
area xs = (run (world_step m) (world m (replicate 3472 0) none) xs).1.area

-- cancelled in the second step, and not admitted since
pub again_unselected : NotSelected (area confirmed_again) (after m confirmed_again).queue (id 1)
unfolding WithdrawnStays plain_step work admit cancel reconcile reopen reopened confirm need clash? read? crossed? items used? entry_bytes new_rec terms_under place_bytes be_val committed cmp_l rise? touched_recs to_release releases touch released_bytes ids_bytes moved finished finish_those forget
again_unselected =
    withdrawn_stays_withdrawn m (replicate 3472 0) none confirmed_again range other_room (roomy m confirmed_again range again_ok)
    (call (enters 1) lent kept ∷ []) (call cancels lent kept) (call (block 100) lent kept ∷ call (enters 1) lent kept ∷ call (reopening (id 1)) lent kept ∷ []) (id 1) refl refl (refl, (refl, (refl, tt)))

expire_ok : All (RoomyOk m) both_expire
expire_ok = (roomed (enters_ok 1 (omega arith)), (roomed (enters_ok 2 (omega arith)), (roomed tt, tt)))

-- the one that was forgotten in the same call
pub forgotten_unselected : NotSelected (area both_expire) (after m both_expire).queue (id 1)
unfolding WithdrawnUnselected plain_step work admit expire due? need clash? read? crossed? items used? entry_bytes new_rec terms_under place_bytes committed cmp_l rise? ids_bytes moved finished finish_those forget
forgotten_unselected = withdrawn_unselected m (replicate 3472 0) none both_expire range other_room (roomy m both_expire range expire_ok) (id 1) refl

-- so on bytes: whatever the time and height, the selection answers no ids
pub bytes_say : (now height : ℕ) (out : Bytes) → selection_at_of (area confirmed_again) now height out ≡ told_out (0 ∷ 0 ∷ 0 ∷ 0 ∷ []) out
unfolding plain_step work admit cancel reconcile reopen reopened confirm need clash? read? crossed? items used? entry_bytes new_rec terms_under place_bytes be_val committed cmp_l rise? touched_recs to_release releases touch released_bytes ids_bytes moved finished finish_those forget selection_at
bytes_say now height out = again_unselected.told now height out
