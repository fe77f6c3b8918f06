-- Admission as the code goes, and what its parts ask and say.
use Rattle.std.specs.Prelude as code
use Rattle.std.specs.Prelude.{◌≡◌, Bool, true, false, cond, ◌&&◌, ◌||◌, List, [], ℕ, ◌+◌, ◌/◌, ◌%◌, ◌^◌, ◌≤◌, ◌<◌, ltb, leb, eqb, length}
use Rattle.std.proofs.Math.Option.{Option, some}
use Rattle.queue.specs.Codec.{opt_c}
use Rattle.queue.specs.layout.FrameCodec.{Head, id_c}
use Rattle.queue.specs.bytes.ViewAs.{view}
use Rattle.queue.specs.layout.FrameAs.{HeadAs}
use Rattle.queue.specs.layout.HeadAs.{tip_in}
use Rattle.queue.specs.theorems.Arguments.{Small, AdmitLent}
use Rattle.queue.specs.layout.FormsCodec.{queue_c}
use Rattle.queue.specs.Areas.{read_area}
use Rattle.queue.specs.check.AreaAs.{AreaAs}
use Rattle.queue.specs.read.ReadingAs.{Here}
use Rattle.queue.specs.declared.Kind.TheVariants.{Nothing}
use Rattle.queue.specs.paper.Answer.{Answer}
use Rattle.queue.specs.paper.Records.{Bytes, Id, Terms, Held, Rec, Queue}
use Rattle.queue.specs.paper.Lists.{any?, find, maybe}
use Rattle.queue.specs.paper.Sound.{need, label_len, clash?, read?, crossed?, pending?, mined?, caller_right?}
use Rattle.queue.specs.paper.Area.{area_bytes, over}
use Rattle.queue.specs.paper.Changing.{named?, reached?, put, new_rec, committed, pendings, pending_bytes, pendings_of, share_of, admit_new, done}
use Rattle.queue.specs.Checked.{admit_shape?, Outcome, outcome, told}
use Rattle.queue.specs.paper.Calls.{items, given, AdmitArgs, admission, id?, whole?, flag?, given_id?, over_k?, entry_bytes}
use Rattle.queue.specs.declared.change.admit.Offered.{Offered}
use Rattle.queue.specs.declared.change.admit.Asked.{Asked}
use Rattle.queue.specs.declared.layout.frame.Time.{Time}
use Rattle.queue.specs.declared.layout.frame.Height.{Height}
use Rattle.queue.specs.declared.change.admit.Tip.{Tip}
use Rattle.queue.specs.read.FindAs.{SpotNumbers}
use Rattle.queue.specs.declared.layout.frame.Head as code_head
use Rattle.queue.specs.declared.check.area.Area.{Area}

-- an option as a flag and a number, and the other way round
abbrev pub flag_of : {A : Type 0} → code.Option A → ℕ
flag_of (code.Some a) = 1
flag_of code.None = 0

abbrev pub time_of : code.Option Time → Time
time_of (code.Some t) = t
time_of code.None = record { 0 = 0 }

abbrev pub height_of : code.Option Height → Height
height_of (code.Some h) = h
height_of code.None = record { 0 = 0 }

abbrev pub given_as : {A : Type 0} → ℕ → A → code.Option A
given_as flag a = cond (eqb flag 1) (code.Some a) code.None

abbrev pub raw : Asked → Offered
raw x = record {
  id = x.id;
  caller = x.caller;
  now = x.now;
  timeflag = flag_of x.time;
  time = time_of x.time;
  heightflag = flag_of x.height;
  height = height_of x.height;
  priority = x.priority;
  labelflag = x.labelflag;
  fee = x.fee;
  cost = x.cost;
  tipheight = x.tipheight;
  tipflag = x.tipflag;
}

abbrev pub asked_as : Offered → Asked
asked_as x = record {
  id = x.id;
  caller = x.caller;
  now = x.now;
  time = given_as x.timeflag x.time;
  height = given_as x.heightflag x.height;
  priority = x.priority;
  labelflag = x.labelflag;
  fee = x.fee;
  cost = x.cost;
  tipheight = x.tipheight;
  tipflag = x.tipflag;
}

abbrev pub args_of : Offered → Bytes → Bytes → Bytes → Bytes → Bytes → Bytes → Bytes → AdmitArgs
args_of x id ins outs reads bytes label tip = record {
  id = id;
  caller = x.caller;
  inputs = ins;
  outputs = outs;
  reads = reads;
  bytes = bytes;
  now = x.now.0;
  time_flag = x.timeflag;
  time = x.time.0;
  height_flag = x.heightflag;
  height = x.height.0;
  priority = x.priority;
  label_flag = x.labelflag;
  label = label;
  fee = x.fee;
  cost = x.cost;
  tip_height = x.tipheight.0;
  tip_flag = x.tipflag;
  tip = tip;
}

-- the record that comes of them; the tip has no part in it
unfoldable pub new_of : Offered → Bytes → Bytes → Bytes → Bytes → Bytes → Bytes → Rec
new_of x id ins outs reads bytes label = new_rec (admission (args_of x id ins outs reads bytes label []))

-- how long its parts are
abbrev pub opt_len_value : ℕ → ℕ → ℕ
opt_len_value flag w = cond (eqb flag 1) (1 + w) 1

abbrev pub label_size_value : ℕ → Bytes → ℕ
label_size_value flag label = cond (eqb flag 1) (2 + length label) 1

abbrev pub terms_len : Offered → Bytes → ℕ
terms_len x label = 36 + (opt_len_value x.timeflag 8 + (opt_len_value x.heightflag 4 + label_size_value x.labelflag label))

abbrev pub held_len : Bytes → Bytes → Bytes → Bytes → ℕ
held_len ins outs reads bytes = 11 + (length ins + (length outs + (length reads + length bytes)))

abbrev pub new_len : Offered → Bytes → Bytes → Bytes → Bytes → Bytes → ℕ
new_len x ins outs reads bytes label = 46 + (terms_len x label + held_len ins outs reads bytes)

abbrev pub new_terms : Offered → Bytes → ℕ → Terms
new_terms x label n = record {
  created = x.now.0;
  due = given x.timeflag x.time.0;
  due_height = given x.heightflag x.height.0;
  priority = x.priority;
  label = given x.labelflag label;
  fee = x.fee;
  size = n;
  cost = x.cost;
}

abbrev pub held_lent : Bytes → Bytes → Bytes → Bytes → Held
held_lent ins outs reads bytes = record { ins = items 32 ins; outs = items 32 outs; reads = items 32 reads; bytes = bytes }

-- they fit their fields
pub record TermsFit (x : Offered) (label : Bytes) (n : ℕ) : Type 0 where
  pub id : length x.id ≡ 32
  pub caller : x.caller < 256
  pub now : x.now.0 < 256 ^ 8
  pub time : x.time.0 < 256 ^ 8
  pub height : x.height.0 < 256 ^ 4
  pub priority : x.priority < 256 ^ 8
  pub short : x.labelflag ≡ 1 → length label ≤ 200
  pub fee : x.fee < 256 ^ 8
  pub size : n < 256 ^ 4
  pub cost : x.cost < 256 ^ 8

pub record HeldFit (ins outs reads bytes : Bytes) : Type 0 where
  pub whole_ins : length ins % 32 ≡ 0
  pub whole_outs : length outs % 32 ≡ 0
  pub whole_reads : length reads % 32 ≡ 0
  pub few_ins : length ins / 32 < 65536
  pub few_outs : length outs / 32 < 65536
  pub few_reads : length reads / 32 < 65536
  pub few_bytes : length bytes < 256 ^ 4

-- the queue with r in it, under that cursor
unfoldable pub with_r : ℕ → Option Id → Rec → Queue → Queue
with_r height tip r q = committed height tip q.counter (put r q.recs) q

-- a was read from s, and the queue fits with r in it
pub record WithFrom (s : Bytes) (a : Area) (height : ℕ) (tip : Option Id) (r : Rec) : Type 0 where
  pub q : Queue
  pub is : read_area s ≡ some q
  pub read : AreaAs s a q
  pub fits : length (queue_c.enc (with_r height tip r q)) ≤ need q.limits
  pub small : height < 4294967296

abbrev pub WithTo : Bytes → ℕ → Option Id → Rec → Bytes → Bytes → Type 0
WithTo s height tip r d d' = (q : Queue) → read_area s ≡ some q → d' ≡ over (area_bytes (with_r height tip r q)) d

-- 10, 18 or 11, or 0: room for one more record of n bytes, of that caller
unfoldable pub room_of : Queue → ℕ → ℕ → ℕ
room_of q caller n =
    cond (leb q.limits.P (pendings q.recs)) 10
    (cond (leb (share_of caller q.limits) (pendings_of caller q.recs)) 18 (cond (ltb q.limits.B (pending_bytes q.recs + n)) 11 0))

abbrev pub RoomIs : Bytes → ℕ → ℕ → ℕ → Type 0
RoomIs s caller n r = (q : Queue) → read_area s ≡ some q → r ≡ room_of q caller n

-- 10, 18, 11, 12 or 20 for a new record, or 0
unfoldable pub free_of : Queue → ℕ → ℕ → List Id → List Id → ℕ
free_of q caller n ins reads =
    cond (leb q.limits.P (pendings q.recs)) 10
    (cond (leb (share_of caller q.limits) (pendings_of caller q.recs)) 18
    (cond (ltb q.limits.B (pending_bytes q.recs + n)) 11 (cond (clash? ins q.recs) 12 (cond (crossed? ins reads q.recs) 20 0))))

abbrev pub FreeIs : Bytes → ℕ → ℕ → Bytes → Bytes → ℕ → Type 0
FreeIs s caller n ins reads r = (q : Queue) → read_area s ≡ some q → r ≡ free_of q caller n (items 32 ins) (items 32 reads)

abbrev pub PendingsAre : Bytes → ℕ → Type 0
PendingsAre s n = (q : Queue) → read_area s ≡ some q → n ≡ pendings q.recs

abbrev pub FullIs : Bytes → ℕ → Bool → Type 0
FullIs s caller r = (q : Queue) → read_area s ≡ some q → r ≡ leb (share_of caller q.limits) (pendings_of caller q.recs)

abbrev pub entry_new_len_value : Offered → Bytes → Bytes → Bytes → ℕ
entry_new_len_value x ins reads label = 40 + (terms_len x label + (length ins + length reads))

-- the numbers fit their fields
pub record NumbersFit (x : Offered) : Type 0 where
  pub caller : x.caller < 256
  pub now : x.now.0 < 256 ^ 8
  pub time : x.time.0 < 256 ^ 8
  pub height : x.height.0 < 256 ^ 4
  pub priority : x.priority < 256 ^ 8
  pub fee : x.fee < 256 ^ 8
  pub cost : x.cost < 256 ^ 8
  pub tipheight : x.tipheight.0 < 256 ^ 4

-- 5, 6, 7, 8 or 9 for what is asked, or 0
unfoldable pub asked_of : ℕ → AdmitArgs → ℕ
asked_of K g =
    cond (admit_shape? g)
    (cond (over_k? K g) 6
    (cond (reached? (given g.time_flag g.time) g.now) 7
    (cond (reached? (given g.height_flag g.height) g.tip_height) 8 (cond (ltb 200 (label_len (given g.label_flag g.label))) 9 0)))) 5

abbrev pub AskedIs : ℕ → AdmitArgs → ℕ → Type 0
AskedIs K g r = (r ≡ asked_of K g) × AdmitLent g

-- what is lent has passed the checks 5, 6 and 9
pub record AskedIn (x : Offered) (id ins outs reads bytes label tip : Bytes) (K : ℕ) : Type 0 where
  pub lent : AdmitLent (args_of x id ins outs reads bytes label tip)
  pub shape : admit_shape? (args_of x id ins outs reads bytes label tip) ≡ true
  pub few : over_k? K (args_of x id ins outs reads bytes label tip) ≡ false
  pub short : ltb 200 (label_len (given x.labelflag label)) ≡ false

-- lent ids, at most 128
pub record LentIds (s : Bytes) : Type 0 where
  pub small : Small s
  pub whole : length s % 32 ≡ 0
  pub few : length s / 32 ≤ 128

abbrev pub ReadIs : Bytes → Bytes → Bool → Type 0
ReadIs s ins r = (q : Queue) → read_area s ≡ some q → r ≡ any? (λ i. read? i q.recs) (items 32 ins)

abbrev pub CrossIs : Bytes → Bytes → Bytes → Bool → Type 0
CrossIs s ins reads r = (q : Queue) → read_area s ≡ some q → r ≡ crossed? (items 32 ins) (items 32 reads) q.recs

-- the cursor of the next queue, where h was read from s
abbrev pub TipFor : Bytes → code_head.Head → Offered → Bytes → Tip → Type 0
TipFor s h x tip r =
    (z : Head) → HeadAs (view false s 4) h z → (opt_c id_c).ok z.tip
    → (r.height.0 ≡ cond (ltb 0 h.count) z.cursor x.tipheight.0) × (tip_in r.id ≡ cond (ltb 0 h.count) z.tip (given x.tipflag tip))

-- what the rest of an admission gives back
abbrev pub NewTold : Bytes → AdmitArgs → Outcome → Bytes → Bytes → Type 0
NewTold s g o next out = (q : Queue) → read_area s ≡ some q → o ≡ told entry_bytes next out (admit_new (admission g) q)

abbrev pub FoundTold : Bytes → AdmitArgs → Outcome → Bytes → Bytes → Type 0
FoundTold s g o next out = (q : Queue) → read_area s ≡ some q → o ≡ told entry_bytes next out (maybe (admit_new (admission g) q) (λ r. cond (pending? r.state || mined? r) (done Nothing q r) (admit_new (admission g) q)) (find (named? g.id) q.recs))

-- whether the record at a spot is pending or Mined; no record stands where none was found
abbrev pub KnownAt : Bytes → SpotNumbers → Bool → Type 0
KnownAt s x r = (r ≡ true → x.found ≡ true) × ((y : Rec) → x.found ≡ true → Here s x.at y → r ≡ (pending? y.state || mined? y))

-- the record at `at` is the answer
abbrev pub OldTold : Bytes → ℕ → Answer → Bytes → Bytes → Type 0
OldTold s at r out out' = (y : Rec) → Here s at y → (next : Bytes) (q : Queue) → outcome r next out' ≡ told entry_bytes next out (done Nothing q y)

-- check 5 in two parts, and what is known of bytes that are lent
abbrev pub ListsAre : Bytes → ℕ → Bytes → Bytes → Bytes → Bool → Type 0
ListsAre id caller ins outs reads r = (r ≡ ((id? id && caller_right? caller) && (whole? 32 ins && (whole? 32 outs && whole? 32 reads)))) × (Small id × Small ins × Small outs × Small reads)

abbrev pub FlagsRight : Offered → Bytes → Bytes → Bytes → Bool → Type 0
FlagsRight x bytes label tip r =
    (r ≡ ((flag? x.timeflag && flag? x.heightflag) && (flag? x.labelflag && given_id? x.tipflag tip))) × (Small bytes × Small label × Small tip)
