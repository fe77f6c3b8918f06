-- Document 01's bench cards, its worked image and docs/AREA.md's worked areas, and the cards of document 02's requests, as one table
-- of tests.
use Rattle.std.specs.Prelude.{◌≡◌, refl, Bool, true, false, cond, not, ◌&&◌, List, [], ◌∷◌, ◌++◌, ℕ, ◌+◌, ◌-◌, ◌*◌, eqb, length, take, drop, replicate}
use Rattle.std.proofs.Math.Option.{Option, none, some}
use Rattle.queue.specs.paper.Answer.{Answer}
use Rattle.queue.specs.Hex.{text_of, dig_of}
use Rattle.queue.specs.paper.Records.{Bytes, Id, Limits, Held, Rec, Queue, queued, mined, conflicted}
use Rattle.queue.specs.paper.Lists.{one, all?, any?, find, map, concat}
use Rattle.queue.specs.paper.Ids.{cmp_l, same?, rise?}
use Rattle.queue.specs.paper.Sound.{need, mined?, sound?, in_range, shares_right?, counts?, right?, distinct?, apart?, used?, clash?, read?, crossed?, read_apart?, reads}
use Rattle.queue.specs.paper.Area.{terms_under, place_bytes, held_under, rec_under, shares_bytes, head_under, be_val, queue_bytes, area_bytes, image_under, image_bytes, over}
use Rattle.queue.specs.paper.Kinds.{kind?, first_share, says?}
use Rattle.queue.specs.paper.Changing.{Out, refused, done, top, named?, committed, moved, new_rec, admit, finished, finish_those, forget, cancel, due?, expire, Applied, Reconciling, confirm, touch, releases, reconcile, reopened, reopen, set_cursor, touched_recs, to_release}
use Rattle.queue.specs.paper.Calls.{kind_number_value, number, items, entry_bytes, ids_bytes, AdmitArgs, admit_args, Call, admitting, shape?, over_k?, fresh, fresh_of, settle_next}
use Rattle.queue.specs.paper.Reading.{reserved_inputs_value}
use Rattle.queue.specs.paper.Fees.{Best, best_fees_value, best_bytes, search_of}
use Rattle.queue.specs.paper.Decisions.{entered, decide, decisions}
use Rattle.queue.specs.paper.Parents.{listed, waits_for?, parents_first_at}

-- the number that a call gives back: a refusal's own, or 100 and the kind
abbrev gives : {A : Type 0} → Out A → ℕ
gives (refused n) = n
gives (done k q a) = 100 + kind_number_value k

-- the queue after it
abbrev after : {A : Type 0} → (Queue → Out A) → Queue → Queue
after {A = A} f q = left (f q)
  where
    left : Out A → Queue
    left (refused n) = q
    left (done k q' a) = q'

-- state and reason of an id
abbrev is? : ℕ → ℕ → Id → Queue → Bool
is? state reason i q = shown (find (named? i) q.recs)
  where
    shown : Option Rec → Bool
    shown none = false
    shown (some r) = eqb r.state state && eqb r.reason reason

abbrev absent? : Id → Queue → Bool
absent? i q = shown (find (named? i) q.recs)
  where
    shown : Option Rec → Bool
    shown none = true
    shown (some r) = false

-- how many were released
abbrev released_in : Out (Bool × List Id) → ℕ
released_in (refused n) = 100
released_in (done k q a) = length a.1

abbrev limits : ℕ → ℕ → ℕ → ℕ → Limits
limits P B T K = record { P = P; B = B; T = T; K = K; shares = first_share P }

abbrev id : ℕ → Id
id n = replicate 32 n

-- a caller, what is held, an id, the time, time deadline and height deadline
abbrev entering : ℕ → Held → ℕ → ℕ → Option ℕ → Option ℕ → Queue → Out Rec
entering caller held i now due due_height q = admit (record {
  id = id i;
  caller = caller;
  now = now;
  due = due;
  due_height = due_height;
  priority = 0;
  label = none;
  fee = 0;
  cost = 0;
  held = held;
  tip_height = 9;
  tip = none;
}) q

-- with these inputs and n signed bytes
abbrev enter_for : ℕ → List Id → ℕ → ℕ → ℕ → Option ℕ → Option ℕ → Queue → Out Rec
enter_for caller ins i n now due due_height q = entering caller (record { ins = ins; outs = []; reads = []; bytes = replicate n 7 }) i now due due_height q

abbrev enter_with : List Id → ℕ → ℕ → ℕ → Option ℕ → Option ℕ → Queue → Out Rec
enter_with = enter_for 0

abbrev enter : ℕ → ℕ → ℕ → Option ℕ → Option ℕ → Queue → Out Rec
enter = enter_with []

abbrev watching : ℕ → ℕ → List Applied → Reconciling
watching height window applied = record { height = height; tip = id 8; applied = applied; caught_up = false; available = []; window = window }

abbrev watch : ℕ → ℕ → List Applied → Queue → Out (Bool × List Id)
watch height window applied q = reconcile (watching height window applied) q

abbrev mined50 : ℕ → List Applied
mined50 i = record { id = id i; height = 50; block = id 7 } ∷ []

abbrev small : Queue
small = fresh (limits 2 10 1 1)

-- two Mined holders under P 2, the first with an input
abbrev two_mined : Queue
two_mined =
    after (watch 50 100 (mined50 1 ++ mined50 2)) (after (enter 2 3 0 none none) (after (enter_with (id 9 ∷ []) 1 3 0 none none) small))

-- one record Mined at 50, kept by a window of 100
abbrev confirmed : Queue
confirmed = after (watch 50 100 (mined50 1)) (after (enter 1 3 0 none none) small)

-- its persisted height is 100
abbrev at100 : Queue
at100 = after (watch 100 100 []) confirmed

-- settling as failed, kind 3, the queue that a reconciliation at 132 leaves
abbrev settled : Answer × Bytes
settled = let x = after (watch 132 100 []) at100 in settle_next at100 (area_bytes x) 3 1 x

abbrev top_revision : Queue
top_revision = record { persisted = 0; limits = limits 2 10 1 1; revision = 18446744073709551615; cursor = 0; tip = none; counter = 0; recs = [] }

-- the worked area's queue with one cancelled record, of caller 5
abbrev worked : Queue
worked = record {
  persisted = 6;
  limits = record { P = 2; B = 10; T = 1; K = 1; shares = (1 ∷ 0 ∷ 0 ∷ 0 ∷ 0 ∷ 1 ∷ []) ++ replicate 10 0 };
  revision = 2;
  cursor = 6;
  tip = none;
  counter = 1;
  recs = record {
    id = replicate 32 17;
    caller = 5;
    state = 4;
    reason = 1;
    terms = record { created = 5; due = none; due_height = none; priority = 18446744073709551615; label = none; fee = 7; size = 3; cost = 9 };
    place = none;
    mark = 0;
    finish = 1;
    body = none;
  } ∷ [];
}

-- the worked area's queue after an admission that reads an id
abbrev worked_reading : Queue
worked_reading = after (admit (record {
  id = replicate 32 34;
  caller = 0;
  now = 5;
  due = none;
  due_height = none;
  priority = 0;
  label = none;
  fee = 1;
  cost = 1;
  held = record { ins = replicate 32 51 ∷ []; outs = []; reads = replicate 32 68 ∷ []; bytes = 171 ∷ 205 ∷ [] };
  tip_height = 1;
  tip = none;
})) small

-- document 02, P12: a candidate is its fee and its size
abbrev Candidate : Type 0
Candidate = ℕ × ℕ

abbrev three : List Candidate
three = (5, 6) ∷ (4, 5) ∷ (3, 5) ∷ []

-- the fees of the set, their sum, the nodes, the distance
abbrev finds? : List Candidate → ℕ → ℕ → List ℕ → ℕ → ℕ → ℕ → Bool
finds? c limit budget fees fee nodes distance = shown (best_fees_value (λ x. x.1) (λ x. x.0) c limit budget)
  where
    shown : Best Candidate → Bool
    shown b = (same? (map (λ x. x.0) b.set) fees && eqb b.fee fee) && (eqb b.nodes nodes && eqb b.distance distance)

-- a record with that fee
abbrev paying : ℕ → Rec
paying fee = record {
  id = id 1;
  caller = 0;
  state = 0;
  reason = 0;
  terms = record { created = 0; due = none; due_height = none; priority = 0; label = none; fee = fee; size = 0; cost = 0 };
  place = none;
  mark = 0;
  finish = 0;
  body = none;
}

-- document 02, P7: a record's number, priority, inputs and outputs; a number is an id
abbrev Row : Type 0
Row = ℕ × (ℕ × (List ℕ × List ℕ))

-- state, reason and place, time deadline and height deadline
abbrev standing : ℕ → ℕ → Option (ℕ × Id) → Option ℕ → Option ℕ → Row → Rec
standing state reason place due due_height r = record {
  id = id r.0;
  caller = 0;
  state = state;
  reason = reason;
  terms = record { created = 0; due = due; due_height = due_height; priority = r.1.0; label = none; fee = 0; size = 0; cost = 0 };
  place = place;
  mark = 0;
  finish = 0;
  body = some (record { ins = map id r.1.1.0; outs = map id r.1.1.1; reads = []; bytes = [] });
}

abbrev waiting : Row → Rec
waiting = standing queued 0 none none none

abbrev in_block : Row → Rec
in_block = standing mined 0 (some (50, id 7)) none none

abbrev in_conflict : Row → Rec
in_conflict = standing conflicted 5 none none none

abbrev holding : List Rec → Queue
holding recs = record { persisted = 0; limits = limits 10 10 1 2; revision = 0; cursor = 0; tip = none; counter = 0; recs = recs }

-- the queue with these records is sound, and the list at this time and height has these numbers
abbrev lists_at? : ℕ → ℕ → List Rec → List ℕ → Bool
lists_at? now height recs numbers =
    let q = holding recs in
    sound? q && same? (concat (map (λ r. r.id) (parents_first_at now height q))) (concat (map id numbers))

abbrev lists? : List Row → List ℕ → Bool
lists? rows numbers = lists_at? 0 0 (map waiting rows) numbers

-- document 02, P5: a reconciliation of a sound queue decides these ids in this order, and releases those with 1
abbrev decides? : ℕ → ℕ → List Applied → Queue → List ℕ → List ℕ → Bool
decides? height window applied q numbers gone =
    let d = decisions (watching height window applied) q in
    sound? q && (same? (concat (map (λ x. x.id) d)) (concat (map id numbers)) && same? (map (λ x. one x.released) d) gone)

-- one Mined and one pending holder under P 1
abbrev one_mined : Queue
one_mined = after (enter 2 3 0 none none) (after (watch 50 100 (mined50 1)) (after (enter 1 3 0 none none) (fresh (limits 1 10 1 1))))

-- document 02, P4: the withdrawn mark of an id
abbrev marked? : ℕ → Id → Queue → Bool
marked? mark i q = shown (find (named? i) q.recs)
  where
    shown : Option Rec → Bool
    shown none = false
    shown (some r) = mined? r && eqb r.mark mark

-- released and rolled back: Expired, reason 3; and confirmed again
abbrev rolled_back : Queue
rolled_back = after (reopen (id 1 ∷ [])) (after (watch 50 0 []) confirmed)

abbrev confirmed_again : Queue
confirmed_again = after (watch 50 100 (mined50 1)) rolled_back

-- past its deadline, 6: Expired, reason 2
abbrev overdue : Queue
overdue = after (expire 6 0) (after (enter 1 3 5 (some 6) none) small)

-- one record, a tombstone or a holder, with that mark
abbrev with_mark : ℕ → ℕ → Bool → ℕ → Queue
with_mark state reason holds mark = record {
  persisted = 0;
  limits = limits 2 10 1 1;
  revision = 0;
  cursor = 0;
  tip = none;
  counter = 1;
  recs = record {
    id = id 1;
    caller = 0;
    state = state;
    reason = reason;
    terms = record { created = 0; due = none; due_height = none; priority = 0; label = none; fee = 0; size = 0; cost = 0 };
    place = cond (eqb state mined) (some (50, id 7)) none;
    mark = mark;
    finish = cond holds 0 1;
    body = cond holds (some (record { ins = []; outs = []; reads = []; bytes = [] })) none;
  } ∷ [];
}

-- document 02, P8: P 3, B 10, and the first shares; the others are 0
abbrev shared : List ℕ → Limits
shared l = record { P = 3; B = 10; T = 1; K = 1; shares = l ++ replicate (16 - length l) 0 }

-- three signed bytes for that caller
abbrev enter_by : ℕ → ℕ → Queue → Out Rec
enter_by caller i q = enter_for caller [] i 3 0 none none q

-- callers 0 and 1 may have one pending record each
abbrev one_each : Queue
one_each = fresh (shared (1 ∷ 1 ∷ []))

-- a rollback lifts caller 0 above its share
abbrev lifted : Queue
lifted = after (reopen (id 1 ∷ [])) (after (enter_by 0 2) (after (watch 50 100 (mined50 1)) (after (enter_by 0 1) one_each)))

abbrev called_by? : ℕ → Id → Queue → Bool
called_by? caller i q = shown (find (named? i) q.recs)
  where
    shown : Option Rec → Bool
    shown none = false
    shown (some r) = eqb r.caller caller && same? (take 33 (entry_bytes r)) (i ++ (caller ∷ []))

-- a record of that caller, under these shares
abbrev with_caller : List ℕ → ℕ → Rec → Queue
with_caller shares caller r = record { persisted = 0; limits = shared shares; revision = 0; cursor = 0; tip = none; counter = 1; recs = called ∷ [] }
  where
    called : Rec
    called = record { id = r.id; caller = caller; state = r.state; reason = r.reason; terms = r.terms; place = r.place; mark = r.mark; finish = r.finish; body = r.body }

-- document 02, P13: a tombstone with that priority
abbrev cancelled_with : ℕ → Rec
cancelled_with priority = record {
  id = id 1;
  caller = 0;
  state = 4;
  reason = 1;
  terms = record { created = 0; due = none; due_height = none; priority = priority; label = none; fee = 0; size = 0; cost = 0 };
  place = none;
  mark = 0;
  finish = 1;
  body = none;
}

abbrev cancelled_one : Rec
cancelled_one = cancelled_with 0

abbrev cancelled_at : ℕ → Queue
cancelled_at priority = with_caller (3 ∷ []) 0 (cancelled_with priority)

abbrev with_priority : ℕ → Queue
with_priority priority = holding (waiting (1, (priority, ([], []))) ∷ [])

-- an admission of a whole id with that caller
abbrev calling : ℕ → Call
calling caller = admitting (admit_args (id 1) caller [] [] [] [] 0 0 0 0 0 0 0 [] 0 0 0 0 [])

-- document 02, P11: an admission with these inputs, outputs and read ids; a number is an id
abbrev enter_held : List ℕ → List ℕ → List ℕ → ℕ → Queue → Out Rec
enter_held ins outs reads i q = entering 0 (record { ins = map id ins; outs = map id outs; reads = map id reads; bytes = 7 ∷ [] }) i 0 none none q

abbrev spending : ℕ → ℕ → Queue → Out Rec
spending input i q = enter_held (input ∷ []) [] [] i q

abbrev reading : ℕ → ℕ → Queue → Out Rec
reading read i q = enter_held [] [] (read ∷ []) i q

abbrev wide : Queue
wide = fresh (limits 3 10 2 2)

-- caught up at 1, with these available
abbrev judging : List ℕ → Queue → Out (Bool × List Id)
judging available q = reconcile (record { height = 1; tip = id 8; applied = []; caught_up = true; available = map id available; window = 100 }) q

-- the record with these read ids
abbrev with_reads : List ℕ → Rec → Rec
with_reads reads r = record { id = r.id; caller = r.caller; state = r.state; reason = r.reason; terms = r.terms; place = r.place; mark = r.mark; finish = r.finish; body = held r.body }
  where
    held : Option Held → Option Held
    held none = none
    held (some h) = some (record { ins = h.ins; outs = h.outs; reads = map id reads; bytes = h.bytes })

-- an id's record reads these, and its entry ends with them
abbrev reads_of? : List ℕ → Id → Queue → Bool
reads_of? numbers i q = shown (find (named? i) q.recs)
  where
    shown : Option Rec → Bool
    shown none = false
    shown (some r) = same? (concat (reads r.body)) (concat (map id numbers)) && same? (drop (length (entry_bytes r) - (2 + 32 * length numbers)) (entry_bytes r)) (0 ∷ length numbers ∷ concat (map id numbers))

-- lent ids of so many bytes: inputs, outputs, read ids
abbrev lending : ℕ → ℕ → ℕ → AdmitArgs
lending ins outs reads = admit_args (id 1) 0 (replicate ins 1) (replicate outs 1) (replicate reads 1) [] 0 0 0 0 0 0 0 [] 0 0 0 0 []

-- what a fresh queue under P 2, B 10, T 1, K 1 gives back for these shares, into n bytes
abbrev fresh_with : Bytes → ℕ → ℕ
fresh_with shares n = number (fresh_of 2 10 1 1 shares (replicate n 9)).0

abbrev numbered : ℕ → Queue → Queue
numbered n q = record { persisted = q.persisted; limits = q.limits; revision = q.revision; cursor = q.cursor; tip = q.tip; counter = n; recs = q.recs }

abbrev cards : List Bool
cards =
    -- "Deadline 6 at 5 enters, 5 doesn't."
    eqb (gives (enter 1 3 5 (some 6) none small)) 102
    ∷ eqb (gives (enter 1 3 5 (some 5) none small)) 7
    -- the same of heights: "9 at 9"
    ∷ eqb (gives (enter 1 3 5 none (some 10) small)) 102
    ∷ eqb (gives (enter 1 3 5 none (some 9) small)) 8
    -- "B 10: 6 + 4 enters, 6 + 5 doesn't."
    ∷ eqb (gives (enter 2 4 0 none none (after (enter 1 6 0 none none) small))) 102
    ∷ eqb (gives (enter 2 5 0 none none (after (enter 1 6 0 none none) small))) 11
    -- "Mined at 50, height 50: window 0 releases, window 1 keeps; at 51 it releases."
    ∷ eqb (released_in (watch 50 0 [] confirmed)) 1
    ∷ eqb (released_in (watch 50 1 [] confirmed)) 0
    ∷ eqb (released_in (watch 51 1 [] confirmed)) 1
    -- "Persisted 100, no record changed: 131 kind 1, 132 kind 3."
    ∷ eqb at100.persisted 100
    ∷ eqb (gives (watch 131 100 [] at100)) 101
    ∷ eqb (gives (watch 132 100 [] at100)) 103
    -- "Cancelled, confirmed, reopened: Cancelled."
    ∷ is? 4 1 (id 1) (after (reopen (id 1 ∷ [])) (after (watch 50 1 (mined50 1)) (after (cancel (id 1)) (after (enter 1 3 0 none none) small))))
    -- "Released, reopened: 5, reason 3."
    ∷ is? 5 3 (id 1) (after (reopen (id 1 ∷ [])) (after (watch 50 0 []) confirmed))
    -- "T 1, two cancelled: the second remains."
    ∷ is? 4 1 (id 1) (after (cancel (id 1)) (after (cancel (id 2)) (after (enter 2 3 0 none none) (after (enter 1 3 0 none none) small))))
    ∷ absent? (id 2) (after (cancel (id 1)) (after (cancel (id 2)) (after (enter 2 3 0 none none) (after (enter 1 3 0 none none) small))))
    -- "Revision at top: 0."
    ∷ eqb (after (enter 1 3 0 none none) top_revision).revision 0
    -- "Errors near to hand: counting Mined in refusal 10; dropping inputs at confirmation; taking zero bytes for a tombstone"
    ∷ eqb (gives (enter 3 3 0 none none two_mined)) 102
    ∷ eqb (gives (enter_with (id 9 ∷ []) 3 3 0 none none two_mined)) 12
    ∷ eqb (gives (cancel (id 1) (after (enter 1 0 0 none none) small))) 102
    -- "moving the persisted height on a failed write": a cursor write at 132 that failed leaves 100, and is due again
    ∷ eqb (number settled.0) 17
    ∷ same? (take 4 settled.1) (0 ∷ 0 ∷ 0 ∷ 100 ∷ [])
    ∷ eqb (gives (watch 132 100 [] (moved 100 132 (some (id 8)) at100))) 103
    -- "Fresh with P 2, B 10, T 1, K 1, whole", with P8's "2, then zeros, 213 bytes": each digit's byte, and the end byte
    ∷ same? (image_bytes small)
    ((48 ∷ 54 ∷ [])
    ++ ((48 ∷ 48 ∷ 48 ∷ 48 ∷ 48 ∷ 48 ∷ 48 ∷ 50 ∷ [])
    ++ ((48 ∷ 48 ∷ 48 ∷ 48 ∷ 48 ∷ 48 ∷ 48 ∷ 97 ∷ [])
    ++ ((48 ∷ 48 ∷ 48 ∷ 48 ∷ 48 ∷ 48 ∷ 48 ∷ 49 ∷ [])
    ++ ((48 ∷ 48 ∷ 48 ∷ 48 ∷ 48 ∷ 48 ∷ 48 ∷ 49 ∷ [])
    ++ ((48 ∷ 48 ∷ 48 ∷ 48 ∷ 48 ∷ 48 ∷ 48 ∷ 50 ∷ [])
    ++ (replicate 120 48 ++ (replicate 16 48 ++ (replicate 8 48 ++ (replicate 2 48 ++ (replicate 16 48 ++ (replicate 8 48 ++ (10 ∷ [])))))))))))))
    ∷ eqb (length (image_bytes small)) 213
    -- docs/AREA.md: "A fresh queue under P 2, B 10, T 1, K 1 needs 3,476 bytes. They start with these 110, and the rest are zeros"
    ∷ eqb (need (limits 2 10 1 1)) 3476
    ∷ same? (area_bytes small)
    ((0 ∷ 0 ∷ 0 ∷ 0 ∷ [])
    ++ ((6 ∷ 0 ∷ 0 ∷ 0 ∷ 2 ∷ 0 ∷ 0 ∷ 0 ∷ 10 ∷ 0 ∷ 0 ∷ 0 ∷ 1 ∷ 0 ∷ 0 ∷ 0 ∷ 1 ∷ [])
    ++ ((0 ∷ 0 ∷ 0 ∷ 2 ∷ [])
    ++ (replicate 60 0 ++ (replicate 8 0 ++ (replicate 4 0 ++ (replicate 1 0 ++ (replicate 8 0 ++ (replicate 4 0 ++ replicate 3366 0)))))))))
    -- "The same queue with one cancelled record .. starts with"
    ∷ sound? worked
    ∷ same? (queue_bytes worked)
    ((0 ∷ 0 ∷ 0 ∷ 6 ∷ [])
    ++ ((6 ∷ 0 ∷ 0 ∷ 0 ∷ 2 ∷ 0 ∷ 0 ∷ 0 ∷ 10 ∷ 0 ∷ 0 ∷ 0 ∷ 1 ∷ 0 ∷ 0 ∷ 0 ∷ 1 ∷ [])
    ++ ((0 ∷ 0 ∷ 0 ∷ 1 ∷ [])
    ++ ((replicate 19 0 ++ (1 ∷ replicate 40 0))
    ++ ((0 ∷ 0 ∷ 0 ∷ 0 ∷ 0 ∷ 0 ∷ 0 ∷ 2 ∷ [])
    ++ ((0 ∷ 0 ∷ 0 ∷ 6 ∷ 0 ∷ [])
    ++ ((0 ∷ 0 ∷ 0 ∷ 0 ∷ 0 ∷ 0 ∷ 0 ∷ 1 ∷ 0 ∷ 0 ∷ 0 ∷ 1 ∷ [])
    ++ ((2 ∷ [])
    ++ (replicate 32 17
    ++ ((5 ∷ 4 ∷ 1 ∷ [])
    ++ ((0 ∷ 0 ∷ 0 ∷ 0 ∷ 0 ∷ 0 ∷ 0 ∷ 5 ∷ 0 ∷ 0 ∷ (replicate 8 255 ++ (0 ∷ [])))
    ++ ((0 ∷ 0 ∷ 0 ∷ 0 ∷ 0 ∷ 0 ∷ 0 ∷ 7 ∷ 0 ∷ 0 ∷ 0 ∷ 3 ∷ 0 ∷ 0 ∷ 0 ∷ 0 ∷ 0 ∷ 0 ∷ 0 ∷ 9 ∷ [])
    ++ (0 ∷ 0 ∷ 0 ∷ 0 ∷ 0 ∷ 0 ∷ 0 ∷ 0 ∷ 0 ∷ 1 ∷ 0 ∷ [])))))))))))))
    -- "The fresh queue after an admission .. that spends .., reads .., starts with"
    ∷ sound? worked_reading
    ∷ same? (queue_bytes worked_reading)
    ((0 ∷ 0 ∷ 0 ∷ 1 ∷ [])
    ++ ((6 ∷ 0 ∷ 0 ∷ 0 ∷ 2 ∷ 0 ∷ 0 ∷ 0 ∷ 10 ∷ 0 ∷ 0 ∷ 0 ∷ 1 ∷ 0 ∷ 0 ∷ 0 ∷ 1 ∷ [])
    ++ ((0 ∷ 0 ∷ 0 ∷ 2 ∷ [])
    ++ (replicate 60 0
    ++ ((0 ∷ 0 ∷ 0 ∷ 0 ∷ 0 ∷ 0 ∷ 0 ∷ 1 ∷ 0 ∷ 0 ∷ 0 ∷ 1 ∷ 0 ∷ [])
    ++ ((replicate 8 0 ++ (0 ∷ 0 ∷ 0 ∷ 1 ∷ []))
    ++ ((2 ∷ [])
    ++ (replicate 32 34
    ++ ((0 ∷ 0 ∷ 0 ∷ [])
    ++ ((0 ∷ 0 ∷ 0 ∷ 0 ∷ 0 ∷ 0 ∷ 0 ∷ 5 ∷ 0 ∷ 0 ∷ (replicate 8 0 ++ (0 ∷ [])))
    ++ ((0 ∷ 0 ∷ 0 ∷ 0 ∷ 0 ∷ 0 ∷ 0 ∷ 1 ∷ 0 ∷ 0 ∷ 0 ∷ 2 ∷ 0 ∷ 0 ∷ 0 ∷ 0 ∷ 0 ∷ 0 ∷ 0 ∷ 1 ∷ [])
    ++ (replicate 10 0
    ++ ((1 ∷ 0 ∷ 1 ∷ [])
    ++ (replicate 32 51 ++ (0 ∷ 0 ∷ 0 ∷ 1 ∷ (replicate 32 68 ++ (0 ∷ 0 ∷ 0 ∷ 2 ∷ 171 ∷ 205 ∷ [])))))))))))))))))
    -- P12: fees 5, 4, 3 and sizes 6, 5, 5, limit 10
    ∷ finds? three 10 1 [] 0 1 7
    ∷ finds? three 10 2 (5 ∷ []) 5 2 2
    ∷ finds? three 10 5 (5 ∷ []) 5 5 2
    ∷ finds? three 10 6 (5 ∷ []) 5 6 2
    ∷ finds? three 10 7 (4 ∷ 3 ∷ []) 7 7 0
    ∷ finds? three 10 100 (4 ∷ 3 ∷ []) 7 11 0
    -- no candidates; none that fits; one without bytes; of equals the first visited; a fee of 0 takes nobody's place
    ∷ finds? [] 10 1 [] 0 1 0
    ∷ finds? three 0 100 [] 0 4 0
    ∷ finds? ((5, 0) ∷ []) 0 100 (5 ∷ []) 5 3 0
    ∷ finds? ((2, 5) ∷ (2, 4) ∷ []) 5 100 (2 ∷ []) 2 6 0
    ∷ finds? ((0, 1) ∷ []) 5 100 [] 0 3 0
    -- the largest fee: its bound is the distance while it is unvisited; a distance above 0 though the set is the best
    ∷ finds? ((top, 50) ∷ []) 100 1 [] 0 1 top
    ∷ finds? ((top, 50) ∷ []) 10 1 [] 0 1 0
    ∷ finds? ((5, 4) ∷ (3, 4) ∷ (3, 4) ∷ []) 7 2 (5 ∷ []) 5 2 1
    -- "21, the candidates' fees sum over 18,446,744,073,709,551,615", and not at it: then 4
    ∷ eqb (number (search_of (paying top ∷ paying 1 ∷ []) 0 1 []).0) 21
    ∷ eqb (number (search_of (paying (top - 1) ∷ paying 1 ∷ []) 0 1 []).0) 4
    -- P7: nothing selected
    ∷ lists? [] []
    ∷ lists_at? 0 0 (in_block (1, (0, (50 ∷ [], []))) ∷ in_conflict (2, (0, (51 ∷ [], []))) ∷ []) []
    -- nobody waits: the old order, which is priority falling, then ids rising
    ∷ lists? ((1, (0, (50 ∷ [], []))) ∷ (2, (5, (51 ∷ [], []))) ∷ (3, (5, (52 ∷ [], []))) ∷ []) (2 ∷ 3 ∷ 1 ∷ [])
    -- a parent behind its child; before it
    ∷ lists? ((1, (0, (60 ∷ [], []))) ∷ (2, (0, (50 ∷ [], 60 ∷ []))) ∷ []) (2 ∷ 1 ∷ [])
    ∷ lists? ((1, (0, (60 ∷ [], []))) ∷ (2, (5, (50 ∷ [], 60 ∷ []))) ∷ []) (2 ∷ 1 ∷ [])
    -- the child right behind its parent, though 3 was free before it: from the front again
    ∷ lists? ((1, (0, (60 ∷ [], []))) ∷ (2, (0, (50 ∷ [], 60 ∷ []))) ∷ (3, (0, (51 ∷ [], []))) ∷ []) (2 ∷ 1 ∷ 3 ∷ [])
    -- "every other": its own output among its inputs
    ∷ lists? ((1, (0, (60 ∷ [], 60 ∷ []))) ∷ (2, (0, (50 ∷ [], []))) ∷ []) (1 ∷ 2 ∷ [])
    -- 1 and 2 wait for each other, 3 for 2: all three are left off
    ∷ lists? ((1, (0, (71 ∷ [], 70 ∷ []))) ∷ (2, (0, (70 ∷ [], 71 ∷ 72 ∷ []))) ∷ (3, (0, (72 ∷ [], []))) ∷ (4, (0, (50 ∷ [], []))) ∷ []) (4 ∷ [])
    -- two parents, 1 and 3; the child 4, first in the old order, right behind the last of them, and before 2 of lower priority,
    -- which was free all the time
    ∷ lists? ((1, (5, (50 ∷ [], 61 ∷ []))) ∷ (2, (1, (52 ∷ [], []))) ∷ (3, (4, (51 ∷ [], 62 ∷ []))) ∷ (4, (9, (61 ∷ 62 ∷ [], []))) ∷ [])
    (1 ∷ 3 ∷ 4 ∷ 2 ∷ [])
    -- an output that two records name: both are waited for
    ∷ lists? ((1, (0, (61 ∷ [], []))) ∷ (2, (0, (50 ∷ [], 61 ∷ []))) ∷ (3, (0, (51 ∷ [], []))) ∷ (4, (0, (52 ∷ [], 61 ∷ []))) ∷ [])
    (2 ∷ 3 ∷ 4 ∷ 1 ∷ [])
    -- its own output, which another names too: that one is waited for
    ∷ lists? ((1, (0, (60 ∷ [], 60 ∷ []))) ∷ (2, (0, (50 ∷ [], 60 ∷ []))) ∷ []) (2 ∷ 1 ∷ [])
    -- a grandparent behind the parent behind the child
    ∷ lists? ((1, (0, (61 ∷ [], []))) ∷ (2, (0, (60 ∷ [], 61 ∷ []))) ∷ (3, (0, (50 ∷ [], 60 ∷ []))) ∷ (4, (0, (51 ∷ [], []))) ∷ []) (3 ∷ 2 ∷ 1 ∷ 4 ∷ [])
    -- a parent that is Mined, or Conflicted, is not waited for
    ∷ lists_at? 0 0 (waiting (1, (0, (60 ∷ [], []))) ∷ in_block (2, (0, (50 ∷ [], 60 ∷ []))) ∷ []) (1 ∷ [])
    ∷ lists_at? 0 0 (waiting (1, (0, (60 ∷ [], []))) ∷ in_conflict (2, (0, (50 ∷ [], 60 ∷ []))) ∷ []) (1 ∷ [])
    -- nor is one past its deadline: before it and at it, by time and by height
    ∷ lists_at? 5 0 (waiting (1, (0, (60 ∷ [], []))) ∷ standing queued 0 none (some 6) none (2, (0, (50 ∷ [], 60 ∷ []))) ∷ []) (2 ∷ 1 ∷ [])
    ∷ lists_at? 6 0 (waiting (1, (0, (60 ∷ [], []))) ∷ standing queued 0 none (some 6) none (2, (0, (50 ∷ [], 60 ∷ []))) ∷ []) (1 ∷ [])
    ∷ lists_at? 0 5 (waiting (1, (0, (60 ∷ [], []))) ∷ standing queued 0 none none (some 6) (2, (0, (50 ∷ [], 60 ∷ []))) ∷ []) (2 ∷ 1 ∷ [])
    ∷ lists_at? 0 6 (waiting (1, (0, (60 ∷ [], []))) ∷ standing queued 0 none none (some 6) (2, (0, (50 ∷ [], 60 ∷ []))) ∷ []) (1 ∷ [])
    -- 2 is Mined and between 1 and its grandparent 3: nothing to wait for
    ∷ lists_at? 0 0 (waiting (1, (0, (61 ∷ [], []))) ∷ in_block (2, (0, (60 ∷ [], 61 ∷ []))) ∷ waiting (3, (0, (50 ∷ [], 60 ∷ []))) ∷ []) (1 ∷ 3 ∷ [])
    -- ten at once: 9, 7 and 5 a chain, 6 with its own output, 3 and 4 in a ring, 1 waits for 10
    ∷ lists? ((1, (9, (73 ∷ 52 ∷ [], []))) ∷ (2, (8, (72 ∷ [], []))) ∷ (3, (7, (70 ∷ [], 71 ∷ []))) ∷ (4, (6, (71 ∷ [], 70 ∷ []))) ∷ (5, (5, (61 ∷ [], 62 ∷ [])))
    ∷ (6, (4, (64 ∷ [], 64 ∷ []))) ∷ (7, (3, (60 ∷ [], 61 ∷ []))) ∷ (8, (2, (51 ∷ [], 63 ∷ []))) ∷ (9, (1, (50 ∷ [], 60 ∷ []))) ∷ (10, (0, (53 ∷ [], 73 ∷ []))) ∷ [])
    (2 ∷ 6 ∷ 8 ∷ 9 ∷ 7 ∷ 5 ∷ 10 ∷ 1 ∷ [])
    -- P5: nobody Mined; one Mined, kept and released
    ∷ decides? 50 0 [] small [] []
    ∷ decides? 50 1 [] confirmed (1 ∷ []) (0 ∷ [])
    ∷ decides? 51 1 [] confirmed (1 ∷ []) (1 ∷ [])
    -- the highest first; each is decided, also behind the first one released
    ∷ decides? 149 100 [] two_mined (2 ∷ 1 ∷ []) (0 ∷ 0 ∷ [])
    ∷ decides? 150 100 [] two_mined (2 ∷ 1 ∷ []) (1 ∷ 1 ∷ [])
    -- one that this call confirms is decided too; with P 1 exceeded the lower one goes
    ∷ decides? 50 100 [] one_mined (1 ∷ []) (0 ∷ [])
    ∷ decides? 50 100 (mined50 2) one_mined (2 ∷ 1 ∷ []) (0 ∷ 1 ∷ [])
    -- confirmed anew, elsewhere: once, at the new height
    ∷ decides? 51 1 (record { id = id 1; height = 51; block = id 7 } ∷ []) confirmed (1 ∷ []) (0 ∷ [])
    -- a Mined tombstone is not decided, nor is one that becomes Mined
    ∷ decides? 50 0 [] (after (watch 50 0 []) confirmed) [] []
    ∷ decides? 50 0 (mined50 1) (after (cancel (id 1)) (after (enter 1 3 0 none none) small)) [] []
    -- 15 by those released: two of two have no room, two have just room, and none needs none
    ∷ eqb (gives (watch 150 100 [] (numbered (top - 1) two_mined))) 15
    ∷ eqb (gives (watch 150 100 [] (numbered (top - 2) two_mined))) 102
    ∷ eqb (gives (watch 149 100 [] (numbered top two_mined))) 103
    -- P4: "Confirmed and rolled back again": mark 3, and Expired with reason 3 as before, any number of times
    ∷ is? 5 3 (id 1) rolled_back
    ∷ marked? 3 (id 1) confirmed_again
    ∷ is? 5 3 (id 1) (after (reopen (id 1 ∷ [])) confirmed_again)
    ∷ marked? 3 (id 1) (after (watch 50 100 (mined50 1)) (after (reopen (id 1 ∷ [])) confirmed_again))
    -- confirmed at another place while it is Mined: the mark stays
    ∷ marked? 3 (id 1) (after (watch 51 100 (record { id = id 1; height = 51; block = id 7 } ∷ [])) confirmed_again)
    -- one past its deadline: mark 5, reason 2; a cancelled one: mark 4, reason 1; one that is released: none
    ∷ is? 5 2 (id 1) overdue
    ∷ marked? 5 (id 1) (after (watch 50 100 (mined50 1)) overdue)
    ∷ is? 5 2 (id 1) (after (reopen (id 1 ∷ [])) (after (watch 50 100 (mined50 1)) overdue))
    ∷ marked? 4 (id 1) (after (watch 50 1 (mined50 1)) (after (cancel (id 1)) (after (enter 1 3 0 none none) small)))
    ∷ marked? 0 (id 1) (after (watch 50 0 []) confirmed)
    -- admitted anew: a record like any other
    ∷ is? 0 0 (id 1) (after (enter 1 3 0 none none) (after (reopen (id 1 ∷ [])) confirmed_again))
    -- sound: 0, 3, 4 or 5, other than 0 only on a Mined tombstone
    ∷ all? (λ m. sound? (with_mark 2 0 false m)) (0 ∷ 3 ∷ 4 ∷ 5 ∷ [])
    ∷ all? (λ m. not (sound? (with_mark 2 0 false m))) (1 ∷ 2 ∷ 6 ∷ 255 ∷ [])
    ∷ (sound? (with_mark 2 0 true 0) && not (sound? (with_mark 2 0 true 3)))
    ∷ (sound? (with_mark 5 3 false 0) && not (sound? (with_mark 5 3 false 3)))
    ∷ (sound? (with_mark 4 1 false 0) && not (sound? (with_mark 4 1 false 3)))
    -- "header kind 03": 01 and 03 are read, 04, 05 and 06; 01 can't say mark 3
    ∷ all? kind? (1 ∷ 3 ∷ 4 ∷ 5 ∷ 6 ∷ [])
    ∷ all? (λ k. not (kind? k)) (0 ∷ 2 ∷ 7 ∷ 8 ∷ 255 ∷ [])
    ∷ (says? 3 (with_mark 2 0 false 3) && not (says? 1 (with_mark 2 0 false 3)))
    ∷ (says? 1 (with_mark 2 0 false 5) && says? 3 (with_mark 2 0 false 5))
    -- the worked image under 01 is document 01's, of 85 bytes: no shares; under 03 it differs in its second digit alone
    ∷ eqb (length (image_under 1 small)) 85
    ∷ same? (image_under 1 small) (48 ∷ 49 ∷ (take 32 (drop 2 (image_bytes small)) ++ drop 162 (image_bytes small)))
    ∷ same? (image_under 3 small) (48 ∷ 51 ∷ drop 2 (image_under 1 small))
    -- P8: "18, pending records of this caller reach its share": one enters, a second of the same caller doesn't, another caller's does
    ∷ eqb (gives (enter_by 0 1 one_each)) 102
    ∷ eqb (gives (enter_by 0 2 (after (enter_by 0 1) one_each))) 18
    ∷ eqb (gives (enter_by 1 2 (after (enter_by 0 1) one_each))) 102
    -- a share of 0: always; a share of 2: two
    ∷ eqb (gives (enter_by 15 1 one_each)) 18
    ∷ eqb (gives (enter_by 15 1 (fresh (shared (replicate 15 0 ++ (1 ∷ [])))))) 102
    ∷ eqb (gives (enter_by 0 2 (after (enter_by 0 1) (fresh (shared (2 ∷ [])))))) 102
    ∷ eqb (gives (enter_by 0 3 (after (enter_by 0 2) (after (enter_by 0 1) (fresh (shared (2 ∷ []))))))) 18
    -- "directly after 10": 10 goes first, 18 before 11 and 12, 9 before it
    ∷ eqb (gives (enter_by 0 4 (after (enter_by 2 3) (after (enter_by 1 2) (after (enter_by 0 1) (fresh (shared (1 ∷ 1 ∷ 1 ∷ [])))))))) 10
    ∷ eqb (gives (enter_for 0 [] 2 9 0 none none (after (enter_by 0 1) one_each))) 18
    ∷ eqb (gives (enter_for 1 [] 2 9 0 none none (after (enter_by 0 1) one_each))) 11
    ∷ eqb (gives (enter_for 0 (id 9 ∷ []) 2 3 0 none none (after (enter_for 0 (id 9 ∷ []) 1 3 0 none none) one_each))) 18
    ∷ eqb (gives (enter_for 1 (id 9 ∷ []) 2 3 0 none none (after (enter_for 0 (id 9 ∷ []) 1 3 0 none none) one_each))) 12
    ∷ eqb (gives (enter_for 0 [] 2 3 5 (some 5) none (after (enter_by 0 1) one_each))) 7
    -- a pending or Mined id gives its old record, whoever asks; Mined ones and tombstones are not counted, Conflicted ones are
    ∷ eqb (gives (enter_by 15 1 (after (enter_by 0 1) one_each))) 100
    ∷ eqb (gives (enter_by 15 1 (after (watch 50 100 (mined50 1)) (after (enter_by 0 1) one_each)))) 100
    ∷ eqb (gives (enter_by 0 2 (after (watch 50 100 (mined50 1)) (after (enter_by 0 1) one_each)))) 102
    ∷ eqb (gives (enter_by 0 2 (after (cancel (id 1)) (after (enter_by 0 1) one_each)))) 102
    ∷ eqb (gives (enter_by 0 2 (with_caller (1 ∷ 1 ∷ []) 0 (in_conflict (1, (0, ([], []))))))) 18
    ∷ eqb (gives (enter_by 1 2 (with_caller (1 ∷ 1 ∷ []) 0 (in_conflict (1, (0, ([], []))))))) 102
    -- "rollbacks can lift a caller above its share": the queue is sound, and 18 stays
    ∷ (sound? lifted && eqb (gives (enter_by 0 3 lifted)) 18)
    ∷ eqb (gives (enter_by 1 3 lifted)) 102
    -- a record keeps its caller: confirmed, released, reopened, cancelled; admitted anew it has the new one
    ∷ called_by? 1 (id 1) (after (enter_by 1 1) one_each)
    ∷ called_by? 1 (id 1) (after (watch 50 0 (mined50 1)) (after (enter_by 1 1) one_each))
    ∷ called_by? 1 (id 1) (after (reopen (id 1 ∷ [])) (after (watch 50 100 (mined50 1)) (after (enter_by 1 1) one_each)))
    ∷ called_by? 1 (id 1) (after (cancel (id 1)) (after (enter_by 1 1) one_each))
    ∷ called_by? 0 (id 1) (after (enter_by 0 1) (after (cancel (id 1)) (after (enter_by 1 1) one_each)))
    -- "a caller number over 15 is 5"; in a record, a tombstone's too, it is not sound
    ∷ (shape? (calling 15) && not (shape? (calling 16)))
    ∷ (sound? (with_caller [] 15 (waiting (1, (0, ([], []))))) && not (sound? (with_caller [] 16 (waiting (1, (0, ([], [])))))))
    ∷ (sound? (with_caller [] 15 cancelled_one) && not (sound? (with_caller [] 16 cancelled_one)))
    -- "a share over P is 1", and not sound
    ∷ (sound? (fresh (shared (replicate 16 3))) && not (sound? (fresh (shared (replicate 15 3 ++ (4 ∷ []))))))
    ∷ not (sound? (fresh (shared (replicate 17 0))))
    ∷ eqb (fresh_with (shares_bytes (replicate 16 2)) 3476) 100
    ∷ eqb (fresh_with (shares_bytes (replicate 15 2 ++ (3 ∷ []))) 0) 1
    -- then 2, and 5 for a list that is not whole, of which no share is read
    ∷ eqb (fresh_with (replicate 63 255) 3475) 2
    ∷ all? (λ n. eqb (fresh_with (replicate n 255) 3476) 5) (0 ∷ 63 ∷ 65 ∷ 128 ∷ [])
    ∷ eqb (fresh_with (replicate 64 255) 3476) 1
    -- "Images with kinds 01 and 03 open with caller 0 throughout, share 0 being P and the others 0": they can say no other
    ∷ (says? 3 (with_caller (3 ∷ []) 0 cancelled_one) && says? 1 (with_caller (3 ∷ []) 0 cancelled_one))
    ∷ (says? 4 (with_caller (3 ∷ []) 1 cancelled_one) && not (says? 3 (with_caller (3 ∷ []) 1 cancelled_one)))
    ∷ (says? 4 (with_caller (2 ∷ []) 0 cancelled_one) && not (says? 3 (with_caller (2 ∷ []) 0 cancelled_one)))
    ∷ not (says? 1 (with_caller (3 ∷ 1 ∷ []) 0 cancelled_one))
    -- P11: "No record may spend what another record reads": 20 in both directions
    ∷ eqb (gives (spending 9 2 (after (reading 9 1) wide))) 20
    ∷ eqb (gives (reading 9 2 (after (spending 9 1) wide))) 20
    ∷ eqb (gives (enter_held (8 ∷ 9 ∷ []) [] (7 ∷ []) 2 (after (enter_held (5 ∷ []) [] (6 ∷ 9 ∷ []) 1) wide))) 20
    -- "two records may read the same one"; "a record may read what it spends itself", also twice, or its own output
    ∷ eqb (gives (reading 9 2 (after (reading 9 1) wide))) 102
    ∷ eqb (gives (enter_held (9 ∷ []) (8 ∷ []) (9 ∷ 8 ∷ []) 1 wide)) 102
    ∷ eqb (gives (enter_held [] [] (9 ∷ 9 ∷ []) 1 wide)) 102
    -- "directly after 12": what another spends and reads is 12 to spend, 20 to read; 11 goes before
    ∷ eqb (gives (spending 9 2 (after (enter_held (9 ∷ []) [] (9 ∷ []) 1) wide))) 12
    ∷ eqb (gives (reading 9 2 (after (enter_held (9 ∷ []) [] (9 ∷ []) 1) wide))) 20
    ∷ eqb (gives (enter_for 0 (id 9 ∷ []) 2 10 0 none none (after (reading 9 1) wide))) 11
    -- a pending id gives its old record; a Mined one counts in both directions until it is released; a tombstone does not
    ∷ eqb (gives (reading 9 1 (after (spending 9 2) (after (reading 8 1) wide)))) 100
    ∷ eqb (gives (spending 9 2 (after (watch 50 100 (mined50 1)) (after (reading 9 1) wide)))) 20
    ∷ eqb (gives (reading 9 2 (after (watch 50 100 (mined50 1)) (after (spending 9 1) wide)))) 20
    ∷ eqb (gives (spending 9 2 (after (watch 50 0 (mined50 1)) (after (reading 9 1) wide)))) 102
    ∷ eqb (gives (spending 9 2 (after (cancel (id 1)) (after (reading 9 1) wide)))) 102
    -- "Read ids are released with the inputs": cancelled, released; confirmed and rolled back they stay
    ∷ reads_of? (9 ∷ []) (id 1) (after (reading 9 1) wide)
    ∷ reads_of? [] (id 1) (after (cancel (id 1)) (after (reading 9 1) wide))
    ∷ reads_of? [] (id 1) (after (watch 50 0 (mined50 1)) (after (reading 9 1) wide))
    ∷ reads_of? (9 ∷ []) (id 1) (after (reopen (id 1 ∷ [])) (after (watch 50 100 (mined50 1)) (after (reading 9 1) wide)))
    -- "an unavailable read id makes a record Conflicted just as an input does"; an available one, or an output of a Queued record, doesn't
    ∷ is? 3 5 (id 1) (after (judging []) (after (reading 9 1) wide))
    ∷ is? 0 0 (id 1) (after (judging (9 ∷ [])) (after (reading 9 1) wide))
    ∷ is? 3 5 (id 1) (after (judging (8 ∷ [])) (after (enter_held (8 ∷ []) [] (9 ∷ []) 1) wide))
    ∷ is? 3 5 (id 1) (after (judging (9 ∷ [])) (after (enter_held (8 ∷ []) [] (9 ∷ []) 1) wide))
    ∷ is? 0 0 (id 1) (after (judging (8 ∷ 9 ∷ [])) (after (judging []) (after (enter_held (8 ∷ []) [] (9 ∷ []) 1) wide)))
    ∷ is? 0 0 (id 1) (after (judging []) (after (enter_held [] (9 ∷ []) [] 2) (after (reading 9 1) wide)))
    -- a parent that is Conflicted at entry does not help in this call
    ∷ is? 3 5 (id 1) (after (judging (8 ∷ [])) (after (judging []) (after (enter_held (8 ∷ []) (9 ∷ []) [] 2) (after (reading 9 1) wide))))
    -- "`reserved_inputs` and the index hold only spent ids"
    ∷ same? (concat (reserved_inputs_value (after (enter_held (8 ∷ 5 ∷ []) [] (9 ∷ 8 ∷ []) 1) wide))) (concat (map id (5 ∷ 8 ∷ [])))
    -- "over K of them is 6", each list by itself; a read list that is not whole is 5
    ∷ (not (over_k? 2 (lending 64 64 64)) && over_k? 2 (lending 0 0 96))
    ∷ (over_k? 2 (lending 96 0 0) && over_k? 2 (lending 0 96 0))
    ∷ (shape? (admitting (lending 32 0 64)) && not (shape? (admitting (lending 32 0 63))))
    -- "A queue where they meet, or a record reads over K ids, isn't sound": in both directions, and of Mined holders
    ∷ not (sound? (holding (waiting (1, (0, (9 ∷ [], []))) ∷ with_reads (9 ∷ []) (waiting (2, (0, (8 ∷ [], [])))) ∷ [])))
    ∷ not (sound? (holding (with_reads (9 ∷ []) (waiting (1, (0, (8 ∷ [], [])))) ∷ in_block (2, (0, (9 ∷ [], []))) ∷ [])))
    ∷ sound? (holding (with_reads (9 ∷ []) (waiting (1, (0, (8 ∷ [], [])))) ∷ with_reads (9 ∷ []) (waiting (2, (0, ([], [])))) ∷ []))
    ∷ sound? (holding (with_reads (8 ∷ 8 ∷ []) (waiting (1, (0, (8 ∷ [], [])))) ∷ []))
    ∷ not (sound? (holding (with_reads (1 ∷ 2 ∷ 3 ∷ []) (waiting (1, (0, ([], [])))) ∷ [])))
    -- "the parents-first order waits for them as for inputs"
    ∷ lists_at? 0 0 (with_reads (60 ∷ []) (waiting (1, (0, ([], [])))) ∷ waiting (2, (0, (50 ∷ [], 60 ∷ []))) ∷ []) (2 ∷ 1 ∷ [])
    ∷ lists_at? 0 0 (with_reads (60 ∷ []) (waiting (1, (0, ([], 60 ∷ [])))) ∷ waiting (2, (0, (50 ∷ [], []))) ∷ []) (1 ∷ 2 ∷ [])
    ∷ lists_at? 0 0 (with_reads (60 ∷ []) (waiting (1, (0, ([], [])))) ∷ in_block (2, (0, (50 ∷ [], 60 ∷ []))) ∷ []) (1 ∷ [])
    ∷ lists_at? 0 0 (with_reads (61 ∷ []) (waiting (1, (0, ([], 60 ∷ [])))) ∷ with_reads (60 ∷ []) (waiting (2, (0, ([], 61 ∷ [])))) ∷ []) []
    -- "older kinds open without read ids": they can say no other, and their frames have no count; the newest has it, 2 bytes and 32 an id
    ∷ (says? 5 (holding (with_reads (9 ∷ []) (waiting (1, (0, ([], [])))) ∷ [])) && not (says? 4 (holding (with_reads (9 ∷ []) (waiting (1, (0, ([], [])))) ∷ []))))
    ∷ all? (λ k. says? k (holding (waiting (1, (0, (8 ∷ [], []))) ∷ []))) (1 ∷ 3 ∷ 4 ∷ 5 ∷ 6 ∷ [])
    ∷ eqb (length (rec_under 5 (with_reads (9 ∷ []) (waiting (1, (0, (8 ∷ [], []))))))) (34 + length (rec_under 4 (waiting (1, (0, (8 ∷ [], []))))))
    ∷ eqb (length (rec_under 5 cancelled_one)) (length (rec_under 4 cancelled_one))
    -- P13: "64 signed bits": the old order from 2^63 - 1 down to -2^63; 2^32 is above 1
    ∷ lists? ((1, (9223372036854775808, ([], []))) ∷ (2, (0, ([], []))) ∷ (3, (9223372036854775807, ([], []))) ∷ (4, (18446744073709551615, ([], []))) ∷ []) (3 ∷ 2 ∷ 4 ∷ 1 ∷ [])
    ∷ lists? ((1, (1, ([], []))) ∷ (2, (4294967296, ([], []))) ∷ (3, (4294967295, ([], []))) ∷ (4, (18446744069414584320, ([], []))) ∷ []) (2 ∷ 3 ∷ 1 ∷ 4 ∷ [])
    -- "eight bytes there": four more under 06 than under 05; -1 is ffffffff in the older kinds
    ∷ eqb (length (rec_under 6 cancelled_one)) (4 + length (rec_under 5 cancelled_one))
    ∷ same? (take 8 (drop 46 (rec_under 6 (waiting (1, (18446744073709551615, ([], []))))))) (replicate 8 255)
    ∷ same? (take 4 (drop 45 (rec_under 1 (waiting (1, (18446744073709551615, ([], []))))))) (replicate 4 255)
    ∷ same? (take 4 (drop 45 (rec_under 1 (waiting (1, (18446744071562067968, ([], []))))))) (128 ∷ 0 ∷ 0 ∷ 0 ∷ [])
    -- "a priority outside 32 bits", of a holder or a tombstone: 06 alone says it
    ∷ all? (λ p. all? (λ k. says? k (with_priority p)) (1 ∷ 3 ∷ 4 ∷ 5 ∷ 6 ∷ [])) (0 ∷ 1 ∷ 2147483647 ∷ 18446744071562067968 ∷ 18446744073709551615 ∷ [])
    ∷ all? (λ p. says? 6 (with_priority p) && not (any? (λ k. says? k (with_priority p)) (1 ∷ 3 ∷ 4 ∷ 5 ∷ []))) (2147483648 ∷ 4294967295 ∷ 4294967296 ∷ 9223372036854775808 ∷ 18446744071562067967 ∷ [])
    ∷ (says? 6 (cancelled_at 2147483648) && not (says? 1 (cancelled_at 2147483648)))
    ∷ (says? 1 (cancelled_at 2147483647) && says? 1 (cancelled_at 18446744073709551615))
    ∷ []

pub all_cards : all? (λ b. b) cards ≡ true
unfolding says? cmp_l over need sound? in_range counts? right? rise? distinct? apart? used? clash? read? crossed? read_apart? terms_under place_bytes held_under rec_under shares_bytes head_under be_val items entry_bytes fresh_of shares_right? queue_bytes area_bytes image_under committed moved new_rec admit finished finish_those forget cancel due? expire confirm touch releases touched_recs to_release reconcile entered decide decisions reopened reopen set_cursor text_of dig_of ids_bytes best_bytes search_of listed waits_for? reserved_inputs_value
all_cards = refl
