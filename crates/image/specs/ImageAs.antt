-- What a queue that was read from a text says of the queue, and what the writers of the other form need and ensure.
use Rattle.std.specs.Prelude.{Result, Ok, Err, ◌≡◌, Bool, true, false, cond, not, ◌&&◌, ◌||◌, ◌∷◌, ◌++◌, ℕ, ◌+◌, ◌*◌, ◌≤◌, ◌<◌, ltb, leb, eqb, length, take, is_some}
use Rattle.std.proofs.Math.Option.{none, some}
use Rattle.queue.specs.Codec.{Codec, be_c}
use Rattle.queue.specs.layout.FrameCodec.{Head, id_c, reads_enc, signed_enc, rec_k}
use Rattle.queue.specs.layout.FormsCodec.{Store, head_in, rec_in_value, store_in, area_form, text_form, store_of, queue_with, queue_c}
use Rattle.queue.specs.theorems.OlderKinds.{rec_mid}
use Rattle.queue.specs.layout.FrameAs.{SeenUnder, HeadUnder}
use Rattle.queue.specs.Areas.{kind_of, read_image}
use Rattle.queue.specs.check.AreaAs.{StoreAs, AreaAs}
use Rattle.queue.specs.bytes.PutAs.{Put}
use Rattle.queue.specs.declared.layout.frame.Form.{Form}
use Rattle.queue.specs.declared.layout.frame.Facts.{Facts}
use Rattle.queue.specs.declared.layout.frame.Head as code_head
use Rattle.queue.specs.declared.layout.frame.Seen.{Seen}
use Rattle.queue.specs.declared.check.area.Open.{Open}
use Rattle.queue.specs.declared.check.area.Area.{Area}
use Rattle.queue.specs.paper.Records.{Bytes, Rec, Queue}
use Rattle.queue.specs.paper.Kinds.{newest, oldest, has_callers, has_wide, rec_said?, says?}
use Rattle.queue.specs.paper.Sound.{need, sound?}
use Rattle.queue.specs.paper.Area.{area_bytes, image_bytes}
use Rattle.queue.specs.declared.Kind.TheVariants.{Nothing}
use Rattle.queue.specs.paper.Answer.{Answer, Refused, Done}
use Rattle.queue.specs.Refusal.{refusal_number}
use Rattle.queue.specs.declared.refusal.Refusal.{Refusal}
use Rattle.queue.specs.declared.refusal.Refusal.TheVariants.{NotAnImage}
use Rattle.image.specs.declared.text.Text.{Text}
use Rattle.image.specs.declared.ImageLimits.{ImageLimits}
use Rattle.image.specs.paper.Image.{Five}
use Rattle.image.specs.declared.back.Cut.{Cut}
use Rattle.queue.specs.layout.LimitsAs.{need_most}

-- x was read from the text s, which is the image of q under the kind that it tells
pub record TextAs (s : Bytes) (x : Text) (q : Queue) : Type 0 where
  pub told : x.form ≡ text_form (kind_of s)
  pub store : StoreAs x.form s 0 x.open (store_of q)
  pub need : x.need ≡ need q.limits
  pub small : x.need ≤ need_most
  pub sound : sound? q ≡ true
  pub range : queue_c.ok q
  pub level : q.persisted ≡ q.cursor

-- the text s is the image of a sound queue, and x was read from it
pub record TextIn (s : Bytes) (x : Text) : Type 0 where
  pub q : Queue
  pub is : read_image s ≡ some q
  pub read : TextAs s x q

-- refusal 16: s is no image of a sound queue
pub record NoText (s : Bytes) (e : Refusal) : Type 0 where
  pub refusal : e ≡ NotAnImage
  pub is : read_image s ≡ none

-- the frame of a, n bytes, stands at the start of v
pub record FrameIn {A : Type 0} (𝓐 : Codec A) (v : Bytes) (n : ℕ) (a : A) : Type 0 where
  pub fine : 𝓐.ok a
  pub within : n ≤ length v
  pub bytes : take n v ≡ 𝓐.enc a
  pub size : length (𝓐.enc a) ≡ n

-- ---- under the newest kind: a header, a record, a queue that was read under a kind fits from `at` on into m bytes; and d' is d with
-- it at `at`
pub record HeadRoom (k : ℕ) (v : Bytes) (x : code_head.Head) (at m : ℕ) : Type 0 where
  pub head : Head
  pub is : HeadUnder k v x head
  pub room : at + length ((head_in area_form).enc head) ≤ m

abbrev pub HeadPut : ℕ → Bytes → code_head.Head → Bytes → ℕ → ℕ → Bytes → Type 0
HeadPut k v x d at r d' =
    (h : Head) → HeadUnder k v x h
    → Put d at ((head_in area_form).enc h) (length ((head_in area_form).enc h)) r d'

pub record RecRoom (k : ℕ) (v : Bytes) (x : Seen) (at m : ℕ) : Type 0 where
  pub rec : Rec
  pub is : SeenUnder k v x rec
  pub frame : FrameIn (rec_k k) v x.size rec
  pub room : at + length ((rec_in_value area_form).enc rec) ≤ m

-- how far the caller reaches in a record of that kind
abbrev pub caller_end_value : ℕ → ℕ
caller_end_value k = cond (has_callers k) 34 33

abbrev pub LeadPut : ℕ → Bytes → Seen → Bytes → ℕ → ℕ → Bytes → Type 0
LeadPut k v x d at r d' =
    (y : Rec) → SeenUnder k v x y → FrameIn (rec_k k) v x.size y
    → Put d at ((2 ∷ id_c.enc y.id) ++ (be_c 1).enc y.caller) 34 r d'

-- and where the priority stands: behind its state, reason, created and deadlines
abbrev pub priority_from_value : ℕ → Facts → ℕ
priority_from_value k f = caller_end_value k + 12 + cond (is_some f.due) 8 0 + cond (is_some f.due_height) 4 0

-- what stands behind the priority, under the newest kind
abbrev pub rec_back : Rec → Bytes
rec_back r = rec_mid r ++ (reads_enc newest r.body ++ signed_enc r.body)

pub record BackRoom (k : ℕ) (v : Bytes) (x : Seen) (from at m : ℕ) : Type 0 where
  pub rec : Rec
  pub is : SeenUnder k v x rec
  pub frame : FrameIn (rec_k k) v x.size rec
  pub narrow : has_wide k ≡ false
  pub here : from ≡ priority_from_value k x.facts + 4
  pub room : at + length (rec_back rec) ≤ m

abbrev pub BackPut : ℕ → Bytes → Seen → ℕ → Bytes → ℕ → ℕ → Bytes → Type 0
BackPut k v x from d at r d' =
    (y : Rec) → SeenUnder k v x y → FrameIn (rec_k k) v x.size y
    → has_wide k ≡ false → from ≡ priority_from_value k x.facts + 4 → Put d at (rec_back y) (length (rec_back y)) r d'

abbrev pub RecPut : ℕ → Bytes → Seen → Bytes → ℕ → ℕ → Bytes → Type 0
RecPut k v x d at r d' =
    (y : Rec) → SeenUnder k v x y → FrameIn (rec_k k) v x.size y
    → Put d at ((rec_in_value area_form).enc y) (length ((rec_in_value area_form).enc y)) r d'

-- read in one form, written in another
pub record StoreRoom (from to : Form) (s : Bytes) (base : ℕ) (x : Open) (at m : ℕ) : Type 0 where
  pub store : Store
  pub is : StoreAs from s base x store
  pub here : base ≤ length s
  pub room : at + length ((store_in to).enc store) ≤ m

abbrev pub StorePut : Form → Form → Bytes → ℕ → Open → Bytes → ℕ → ℕ → Bytes → Type 0
StorePut from to s base x d at r d' = (st : Store) → StoreAs from s base x st → Put d at ((store_in to).enc st) (length ((store_in to).enc st)) r d'

-- a was read from some area
pub record AreaHeld (a : Area) : Type 0 where
  pub area : Bytes
  pub queue : Queue
  pub is : AreaAs area a queue

-- n is how long the image of its queue is
abbrev pub ImageLen : Area → ℕ → Type 0
ImageLen a n = (s : Bytes) (q : Queue) → AreaAs s a q → n ≡ length (image_bytes q)

-- x was read from the image s, and m bytes are as long as its queue needs
pub record AreaRoom (s : Bytes) (x : Text) (m : ℕ) : Type 0 where
  pub queue : Queue
  pub is : TextAs s x queue
  pub room : x.need ≤ m

-- d' is d with that queue's area at its start
abbrev pub AreaPut : Bytes → Text → Bytes → ℕ → Bytes → Type 0
AreaPut s x d r d' = (q : Queue) → TextAs s x q → Put d 0 (area_bytes q) (need q.limits) r d'

-- ---- the way back, from a text of the newest kind to one of kind 01

-- what kind 01 can say of a record, on its facts
unfoldable pub said_f : Facts → Bool
said_f f =
    (ltb f.priority 2147483648 || leb 18446744071562067968 f.priority) && (eqb f.caller 0 && (not (eqb f.mark 3) && eqb f.reads 0))

-- of a queue's header and records
abbrev pub store_said : Store → Bool
store_said st = says? oldest (queue_with 0 st)

-- x was read from the text
pub record Told (s : Bytes) (x : Open) : Type 0 where
  pub store : Store
  pub is : StoreAs (text_form newest) s 0 x store

abbrev pub SaidIs : Bytes → Open → Bool → Type 0
SaidIs s x r = (st : Store) → StoreAs (text_form newest) s 0 x st → r ≡ store_said st

-- a text of n bytes is as long as what is left out
abbrev pub OldLen : ℕ → Open → Type 0
OldLen n x = 128 + 10 * x.head.count + 4 * x.sums.holders ≤ n

pub record OldHeadRoom (v : Bytes) (x : code_head.Head) (at m : ℕ) : Type 0 where
  pub head : Head
  pub is : HeadUnder newest v x head
  pub room : at + length ((head_in (text_form oldest)).enc head) ≤ m

abbrev pub OldHeadPut : Bytes → code_head.Head → Bytes → ℕ → ℕ → Bytes → Type 0
OldHeadPut v x d at r d' =
    (h : Head) → HeadUnder newest v x h
    → Put d at ((head_in (text_form oldest)).enc h) (length ((head_in (text_form oldest)).enc h)) r d'

-- a record's frame has room for the counts of its read ids and of its signed bytes, and for these
pub record CutIn (x : Seen) : Type 0 where
  pub room : cond x.facts.holder 2 0 + cond x.facts.holder (4 + x.facts.bytes) 0 ≤ x.size
  pub small : x.facts.bytes < 4294967296

pub record CutAt (x : Seen) (c : Cut) : Type 0 where
  pub low : c.low ≡ priority_from_value newest x.facts + 4
  pub reads : c.reads + cond x.facts.holder 2 0 ≡ c.signed
  pub signed : c.signed + cond x.facts.holder (4 + x.facts.bytes) 0 ≡ x.size

pub record OldRecRoom (v : Bytes) (x : Seen) (at m : ℕ) : Type 0 where
  pub rec : Rec
  pub is : SeenUnder newest v x rec
  pub frame : FrameIn (rec_k newest) v x.size rec
  pub said : rec_said? oldest rec ≡ true
  pub room : at + length ((rec_in_value (text_form oldest)).enc rec) ≤ m

abbrev pub OldRecPut : Bytes → Seen → Bytes → ℕ → ℕ → Bytes → Type 0
OldRecPut v x d at r d' =
    (y : Rec) → SeenUnder newest v x y → FrameIn (rec_k newest) v x.size y → rec_said? oldest y ≡ true
    → Put d at ((rec_in_value (text_form oldest)).enc y) (length ((rec_in_value (text_form oldest)).enc y)) r d'

pub record OldRoom (s : Bytes) (x : Open) (m : ℕ) : Type 0 where
  pub store : Store
  pub is : StoreAs (text_form newest) s 0 x store
  pub said : store_said store ≡ true
  pub room : 0 + length ((store_in (text_form oldest)).enc store) ≤ m

abbrev pub OldPut : Bytes → Open → Bytes → ℕ → Bytes → Type 0
OldPut s x d r d' =
    (st : Store) → StoreAs (text_form newest) s 0 x st → store_said st ≡ true
    → Put d 0 ((store_in (text_form oldest)).enc st) (length ((store_in (text_form oldest)).enc st)) r d'

-- ---- what the paper says of the answer to `image_limits`, with the shares behind it, to a call behind whose references `old` stood
abbrev pub limits_told : Result ImageLimits Refusal → Bytes → Five → Answer × (Five × Bytes)
limits_told (Ok x) shares old = (Done Nothing, ((x.limits.p, (x.limits.b, (x.limits.t, (x.limits.k, x.need)))), shares))
limits_told (Err r) shares old = (Refused (refusal_number r), (old, shares))
