-- The calls on lent bytes: document 01's "Numbers a call may give back", "Settling", and docs/CALLS.md. "Checked in the order
-- 1, 16, 3, 2, 5, 6, then as above, 15, 4, 17. Each gives only its number; lent bytes keep their values, except the next area
-- after 17."
use Rattle.std.specs.Prelude.{ℕ, zero, suc, ◌+◌, ◌-◌, ◌/◌, ◌%◌, Bool, true, cond, not, ◌&&◌, ◌||◌, List, [], ◌∷◌, ◌++◌, length, take, drop, ◌==◌, nat_eq, nat_le, nat_lt}
use Rattle.std.proofs.Math.Option.{Option, none, some}
use Rattle.queue.specs.declared.Kind.{Kind}
use Rattle.queue.specs.declared.Kind.TheVariants.{Nothing, Memory, Whole, Cursor}
use Rattle.queue.specs.paper.Answer.{Answer, Refused, Done}
use Rattle.queue.specs.Codec.{be}
use Rattle.queue.specs.Areas.{read_area}
use Rattle.queue.specs.paper.Records.{Bytes, Id, Limits, Held, Rec, Queue}
use Rattle.queue.specs.paper.Lists.{is_some, maybe, one, find, map, concat}
use Rattle.queue.specs.paper.Ids.{rise?}
use Rattle.queue.specs.paper.Sound.{in_range, shares_right?, need, inputs, reads, caller_right?}
use Rattle.queue.specs.paper.Area.{flagged, id_list_bytes, terms_bytes, place_bytes, head_bytes, rec_bytes, area_bytes, be_val, over}
use Rattle.queue.specs.paper.Changing.{Out, refused, done, named?, moved, Admission, admit, cancel, expire, Applied, Reconciling, reconcile, reopen, set_cursor}
use Rattle.queue.specs.paper.Reading.{selection_at}

-- by cases: a refusal or kind 0; kind 1, memory only; kind 2, a whole write; kind 3, a cursor write
abbrev pub by_kind : {X : Type 0} → Answer → X → X → X → X → X
by_kind (Refused n) same memory whole cursor = same
by_kind (Done Nothing) same memory whole cursor = same
by_kind (Done Memory) same memory whole cursor = memory
by_kind (Done Whole) same memory whole cursor = whole
by_kind (Done Cursor) same memory whole cursor = cursor

-- the number that a call gives back: a refusal's own, or 100 and the kind
abbrev pub kind_number_value : Kind → ℕ
kind_number_value k = by_kind (Done k) 0 1 2 3

abbrev pub number : Answer → ℕ
number (Refused n) = n
number (Done k) = 100 + kind_number_value k

-- what an exported call gives back: that number, and what is lent to it as it is left
abbrev pub gives : {A : Type 0} → Answer × A → ℕ × A
gives o = (number o.0, o.1)

-- ---- what is lent

-- "id not 32 bytes"
abbrev pub id? : Bytes → Bool
id? s = length s == 32

-- "list not whole": n bytes an item
abbrev pub whole? : ℕ → Bytes → Bool
whole? n s = length s % n == 0

abbrev pub pieces : ℕ → ℕ → Bytes → List Bytes
pieces n zero s = []
pieces n (suc k) s = take n s ∷ pieces n k (drop n s)

unfoldable pub items : ℕ → Bytes → List Bytes
items n s = pieces n (length s / n) s

-- "flag .. not listed"
abbrev pub flag? : ℕ → Bool
flag? n = nat_le n 1

abbrev pub given : {A : Type 0} → ℕ → A → Option A
given flag a = cond (flag == 1) (some a) none

-- "list not whole", "not strictly rising"
abbrev pub id_list? : Bytes → Bool
id_list? s = whole? 32 s && rise? (items 32 s)

-- an id that is there must be whole
abbrev pub given_id? : ℕ → Bytes → Bool
given_id? flag s = flag? flag && (flag == 0 || id? s)

-- ---- answers in bytes

-- how many, and each
abbrev pub counted : {A : Type 0} → (A → Bytes) → List A → Bytes
counted f l = be 4 (length l) ++ concat (map f l)

-- an entry: the record frame from the id to the mined place, the inputs and the read ids
unfoldable pub entry_bytes : Rec → Bytes
entry_bytes r =
    r.id
    ++ (be 1 r.caller
    ++ (be 1 r.state
    ++ (be 1 r.reason
    ++ (terms_bytes r.terms ++ (place_bytes r.place ++ (id_list_bytes (inputs r.body) ++ id_list_bytes (reads r.body)))))))

unfoldable pub ids_bytes : List Id → Bytes
ids_bytes l = be 4 (length l) ++ concat l

unfoldable pub released_bytes : Bool × List Id → Bytes
released_bytes a = one a.0 ∷ ids_bytes a.1

abbrev pub nothing_bytes : Unit {0} → Bytes
nothing_bytes a = []

-- a confirmation, a due record with its state, the cursor
abbrev pub placed_bytes : Id × (ℕ × Id) → Bytes
placed_bytes x = x.0 ++ (be 4 x.1.0 ++ x.1.1)

abbrev pub due_bytes : Id × ℕ → Bytes
due_bytes x = x.0 ++ be 1 x.1

abbrev pub cursor_bytes : Queue → Bytes
cursor_bytes q = be 4 q.cursor ++ flagged (λ i. i) q.tip

-- ---- changing calls

pub record AdmitArgs : Type 0 where
  pub id : Bytes
  pub caller : ℕ
  pub inputs : Bytes
  pub outputs : Bytes
  pub reads : Bytes
  pub bytes : Bytes
  pub now : ℕ
  pub time_flag : ℕ
  pub time : ℕ
  pub height_flag : ℕ
  pub height : ℕ
  pub priority : ℕ
  pub label_flag : ℕ
  pub label : Bytes
  pub fee : ℕ
  pub cost : ℕ
  pub tip_height : ℕ
  pub tip_flag : ℕ
  pub tip : Bytes

-- in the order of docs/CALLS.md
abbrev pub admit_args : Bytes → ℕ → Bytes → Bytes → Bytes → Bytes → ℕ → ℕ → ℕ → ℕ → ℕ → ℕ → ℕ → Bytes → ℕ → ℕ → ℕ → ℕ → Bytes → AdmitArgs
admit_args id caller inputs outputs reads bytes now time_flag time height_flag height priority label_flag label fee cost tip_height tip_flag tip = record { id = id; caller = caller; inputs = inputs; outputs = outputs; reads = reads; bytes = bytes; now = now; time_flag = time_flag; time = time; height_flag = height_flag; height = height; priority = priority; label_flag = label_flag; label = label; fee = fee; cost = cost; tip_height = tip_height; tip_flag = tip_flag; tip = tip }

abbrev pub admission : AdmitArgs → Admission
admission a = record {
  id = a.id;
  caller = a.caller;
  now = a.now;
  due = given a.time_flag a.time;
  due_height = given a.height_flag a.height;
  priority = a.priority;
  label = given a.label_flag a.label;
  fee = a.fee;
  cost = a.cost;
  held = record { ins = items 32 a.inputs; outs = items 32 a.outputs; reads = items 32 a.reads; bytes = a.bytes };
  tip_height = a.tip_height;
  tip = given a.tip_flag a.tip;
}

pub record ReconcileArgs : Type 0 where
  pub height : ℕ
  pub tip : Bytes
  pub applied : Bytes
  pub caught_up : ℕ
  pub available : Bytes
  pub window : ℕ

-- in the order of docs/CALLS.md
abbrev pub reconcile_args : ℕ → Bytes → Bytes → ℕ → Bytes → ℕ → ReconcileArgs
reconcile_args height tip applied caught_up available window = record { height = height; tip = tip; applied = applied; caught_up = caught_up; available = available; window = window }

abbrev pub applied_of : Bytes → Applied
applied_of s = record { id = take 32 s; height = be_val (take 4 (drop 32 s)); block = drop 36 s }

abbrev pub reconciliation : ReconcileArgs → Reconciling
reconciliation a = record { height = a.height; tip = a.tip; applied = map applied_of (items 68 a.applied); caught_up = (a.caught_up == 1); available = items 32 a.available; window = a.window }

-- "admissions, cancellations, expiries, reconciliations, reopenings and cursor settings", with their arguments
pub data Call : Type 0 where
  admitting : AdmitArgs → Call
  cancelling : Bytes → Call
  expiring : ℕ → ℕ → Call
  reconciling : ReconcileArgs → Call
  reopening : Bytes → Call
  setting_cursor : ℕ → ℕ → Bytes → Call

-- 5: "id not 32 bytes; list not whole; applied, available or reopening ids not strictly rising; flag .. not listed". Document 02, P8:
-- "a caller number over 15 is 5"
abbrev pub shape? : Call → Bool
shape? (admitting a) =
    ((id? a.id && caller_right? a.caller) && (whole? 32 a.inputs && (whole? 32 a.outputs && whole? 32 a.reads)))
    && ((flag? a.time_flag && flag? a.height_flag) && (flag? a.label_flag && given_id? a.tip_flag a.tip))
shape? (cancelling i) = id? i
shape? (expiring now height) = true
shape? (reconciling a) =
    (id? a.tip && flag? a.caught_up)
    && ((whole? 68 a.applied && rise? (map (take 32) (items 68 a.applied))) && id_list? a.available)
shape? (reopening ids) = id_list? ids
shape? (setting_cursor height flag tip) = given_id? flag tip

-- 6: "over K inputs or outputs". Document 02, P11: "over K of them", the read ids, "is 6"
abbrev pub over_k? : ℕ → AdmitArgs → Bool
over_k? K a = nat_lt K (length a.inputs / 32) || (nat_lt K (length a.outputs / 32) || nat_lt K (length a.reads / 32))

-- "Each answer, kind and next it works out from its own queue, by this paper's rules and refusals", from the lengths of what is
-- lent: the answer, the next queue, and the answer's bytes
pub record Worked : Type 0 where
  pub answer : Answer
  pub next : Queue
  pub bytes : Bytes

abbrev pub refusing : ℕ → Queue → Worked
refusing n q = record { answer = Refused n; next = q; bytes = [] }

-- 4 comes last: "output shorter than the answer"
abbrev pub worked : {A : Type 0} → (A → Bytes) → Queue → ℕ → Out A → Worked
worked bytes q room (refused n) = refusing n q
worked bytes q room (done k x a) = cond (nat_lt room (length (bytes a))) (refusing 4 q) (record { answer = Done k; next = x; bytes = bytes a })

-- 6 and the call's own rules; reopening and cursor setting have no output: their answer is the kind
abbrev pub rules : Call → Queue → ℕ → Worked
rules (admitting a) q room = cond (over_k? q.limits.K a) (refusing 6 q) (worked entry_bytes q room (admit (admission a) q))
rules (cancelling i) q room = worked entry_bytes q room (cancel i q)
rules (expiring now height) q room = worked ids_bytes q room (expire now height q)
rules (reconciling a) q room = worked released_bytes q room (reconcile (reconciliation a) q)
rules (reopening ids) q room = worked nothing_bytes q room (reopen (items 32 ids) q)
rules (setting_cursor height flag tip) q room = worked nothing_bytes q room (set_cursor height (given flag tip) q)

-- 2: "area to write shorter than needed"; 5; then 6 and the rules
unfoldable pub work : Call → Queue → ℕ → ℕ → Worked
work c q lent room = cond (nat_lt lent (need q.limits)) (refusing 2 q) (cond (shape? c) (rules c q room) (refusing 5 q))

-- "0 nothing, next untouched"
abbrev pub next_area : Answer → Queue → Bytes → Bytes
next_area a q next = let written = over (area_bytes q) next in by_kind a next written written written

abbrev pub on_lent : Bytes → Bytes → Worked → Answer × (Bytes × Bytes)
on_lent next out w = (w.answer, (next_area w.answer w.next next, over w.bytes out))

-- A changing call on the bytes of the current area, the next area and the output: its answer, and what it leaves in the last two.
-- 3: "lent queue area not sound by docs/AREA.md"
unfoldable pub call_of : Call → Bytes → Bytes → Bytes → Answer × (Bytes × Bytes)
call_of c cur next out = maybe (Refused 3, (next, out)) (λ q. on_lent next out (work c q (length next) (length out))) (read_area cur)

-- ---- fresh queues and settling

-- a queue into a lent area: the answer, and what is left there
abbrev pub put_queue : Answer → Queue → Bytes → Answer × Bytes
put_queue a q area = cond (nat_lt (length area) (need q.limits)) (Refused 2, area) (a, over (area_bytes q) area)

-- Limits and shares as they are lent: "sixteen shares", 4 bytes each, one list
abbrev pub numbers : Bytes → List ℕ
numbers s = map be_val (items 4 s)

abbrev pub limits_of : ℕ → ℕ → ℕ → ℕ → Bytes → Limits
limits_of p b t k shares = record { P = p; B = b; T = t; K = k; shares = numbers shares }

-- "A fresh queue has persisted 0."
abbrev pub fresh : Limits → Queue
fresh m = record { persisted = 0; limits = m; revision = 0; cursor = 0; tip = none; counter = 0; recs = [] }

-- 1: a limit out of range, or "a share over P"; 2; 5: shares that are "not whole", which are not looked at then
unfoldable pub fresh_of : ℕ → ℕ → ℕ → ℕ → Bytes → Bytes → Answer × Bytes
fresh_of p b t k shares area =
    let m = limits_of p b t k shares in
    let whole = nat_eq (length shares) 64 in
    cond (in_range m && (not whole || shares_right? m))
    (cond (nat_lt (length area) (need m)) (Refused 2, area) (cond whole (Done Nothing, over (area_bytes (fresh m)) area) (Refused 5, area)))
    (Refused 1, area)

unfoldable pub sound_of : Bytes → Answer
sound_of area = cond (is_some (read_area area)) (Done Nothing) (Refused 3)

-- "kind 2 or 3, and outcome 0 kept or 1 failed"
abbrev pub settle_shape? : ℕ → ℕ → Bool
settle_shape? kind outcome = (kind == 2 || kind == 3) && nat_le outcome 1

-- "Kept leaves it"; "failed kind 3 gives it the current persisted height"
abbrev pub settle_next : Queue → Bytes → ℕ → ℕ → Queue → Answer × Bytes
settle_next q next kind outcome x =
    cond (settle_shape? kind outcome)
    (cond (outcome == 0) (Done Nothing, next) (Refused 17, over (area_bytes (moved q.persisted x.cursor x.tip x)) next))
    (Refused 5, next)

-- "failed kind 2 makes it the current queue, and only there settling can give 2, by the current limits"
unfoldable pub settle_of : Bytes → Bytes → ℕ → ℕ → Answer × Bytes
settle_of cur next kind outcome =
    maybe (Refused 3, next)
    (λ q. cond (kind == 2 && outcome == 1) (put_queue (Refused 17) q next) (maybe (Refused 3, next) (settle_next q next kind outcome) (read_area next)))
    (read_area cur)

-- ---- reading calls

-- bytes into an output: the answer, and what is left there
abbrev pub told_out : Bytes → Bytes → Answer × Bytes
told_out bytes out = cond (nat_lt (length out) (length bytes)) (Refused 4, out) (Done Nothing, over bytes out)

-- a call that answers bytes of the queue
unfoldable pub read_of : (Queue → Bytes) → Bytes → Bytes → Answer × Bytes
read_of f area out = maybe (Refused 3, out) (λ q. told_out (f q) out) (read_area area)

-- a call that answers a number, behind a reference
unfoldable pub number_of : (Queue → ℕ) → Bytes → ℕ → Answer × ℕ
number_of f area old = maybe (Refused 3, old) (λ q. (Done Nothing, f q)) (read_area area)

-- a call about one id: 5, 13
abbrev pub look_up : {A : Type 0} → Bytes → Bytes → A → (Queue → Rec → Answer × A) → Answer × A
look_up area id old f =
    maybe (Refused 3, old) (λ q. cond (id? id) (maybe (Refused 13, old) (f q) (find (named? id) q.recs)) (Refused 5, old)) (read_area area)

unfoldable pub entry_of : Bytes → Bytes → Bytes → Answer × Bytes
entry_of area id out = look_up area id out (λ q r. told_out (entry_bytes r) out)

-- "A record's signed bytes are handed back as a part of the lent area (13 for a tombstone)": they end where the record's frame ends
abbrev pub end_of : Id → List Rec → ℕ
end_of i [] = 0
end_of i (r ∷ l) = length (rec_bytes r) + cond (named? i r) 0 (end_of i l)

-- where the part starts, counted from the area's start, and how long it is
unfoldable pub signed_part : Id → Queue → Held → ℕ × ℕ
signed_part i q h = (4 + length (head_bytes q) + end_of i q.recs - length h.bytes, length h.bytes)

unfoldable pub signed_bytes_of : Bytes → Bytes → ℕ × ℕ → Answer × (ℕ × ℕ)
signed_bytes_of area id old = look_up area id old (λ q r. maybe (Refused 13, old) (λ h. (Done Nothing, signed_part id q h)) r.body)

unfoldable pub selection_at_of : Bytes → ℕ → ℕ → Bytes → Answer × Bytes
selection_at_of area now height out = read_of (λ q. ids_bytes (selection_at now height q)) area out
