-- What a queue that was read from bytes or from a text says of the queue.
use Rattle.std.specs.Prelude.{◌≡◌, refl, Bool, true, false, ◌&&◌, List, [], ℕ, ◌-◌, ◌≤◌, leb, length, take, drop}
use Rattle.std.proofs.Math.Option.{none, some}
use Rattle.queue.specs.layout.FrameCodec.{head_k, rec_c}
use Rattle.queue.specs.bytes.ReaderAs.{whole, behind}
use Rattle.queue.specs.bytes.ViewAs.{view}
use Rattle.queue.specs.layout.FormsCodec.{form_c, after_in_value, Framed, Store, head_for, rec_in_value, area_form, store_of, queue_c}
use Rattle.queue.specs.layout.RecordsAs.{records, recs_at}
use Rattle.queue.specs.Areas.{read_area, zero?}
use Rattle.queue.specs.layout.FrameAs.{limits_in, HeadUnder}
use Rattle.queue.specs.check.ScanAs.{SumsAs}
use Rattle.queue.specs.paper.Ids.{rise?}
use Rattle.queue.specs.paper.Records.{Bytes, Limits, Rec, Queue}
use Rattle.queue.specs.paper.Lists.{all?, map}
use Rattle.queue.specs.paper.Calls.{limits_of}
use Rattle.queue.specs.paper.Sound.{limits_right?, need, right?, counts?, distinct?, apart?, read_apart?, sound?}
use Rattle.queue.specs.declared.layout.frame.Form.{Form}
use Rattle.queue.specs.declared.layout.records.Records.{Records}
use Rattle.queue.specs.declared.check.area.Open.{Open}
use Rattle.queue.specs.declared.check.area.Area.{Area}
use Rattle.queue.specs.declared.refusal.Refusal.{Refusal}
use Rattle.queue.specs.declared.refusal.Refusal.TheVariants.{AreaNotSound}
use Rattle.queue.specs.layout.LimitsAs.{need_most}

-- limits alone, where the shares have no part
abbrev pub limits : ℕ → ℕ → ℕ → ℕ → Limits
limits p b t k = limits_of p b t k []

-- where the records of a queue that was read stand
abbrev pub records_of : Open → Records
records_of x = records x.start x.head.count

-- x was read from s at base, and says of st: its header, and where its records stand
pub record StoreAs (form : Form) (s : Bytes) (base : ℕ) (x : Open) (st : Store) : Type 0 where
  pub head : HeadUnder form.kind (view form.hex s base) x.head (head_for st)
  pub frame : Framed (head_k form.kind) form.hex s base x.head.size (head_for st)
  pub start : x.start ≡ after_in_value form.hex s base x.head.size
  pub all : whole (rec_in_value form) x.head.count s x.start ≡ true
  pub list : recs_at (rec_in_value form) s (records_of x) ≡ st.recs
  pub count : length st.recs ≡ x.head.count
  pub end : drop x.next s ≡ behind (rec_in_value form) x.head.count s x.start
  pub up : x.start ≤ x.next
  pub ends : x.next ≤ length s
  pub sums : SumsAs x.head.limits.k x.head.counter x.sums (recs_at (rec_in_value form) s (records_of x))

-- the rules of a sound queue on its limits, counter and records
unfoldable pub sound_l : Limits → ℕ → List Rec → Bool
sound_l m counter l =
    limits_right? m && (counts? m l && (all? (right? m.K counter) l && (rise? (map (λ r. r.id) l) && (distinct? l && (apart? l && read_apart? l)))))

pub sound_list : (q : Queue) → sound? q ≡ sound_l q.limits q.counter q.recs
unfolding sound? sound_l
sound_list q = refl

-- the rules hold, and zeros stand from `from` on up to what the limits need, which is next
unfoldable pub filled_by : Bytes → ℕ → Limits → ℕ → List Rec → Bool
filled_by s from m counter l = sound_l m counter l && (leb (need m) (length s) && (leb from (need m) && zero? (take (need m - from) (drop from s))))

abbrev pub filled_in : Bytes → Open → Bool
filled_in s x = filled_by s x.next (limits_in x.head.limits) x.head.counter.0 (recs_at (form_c false rec_c) s (records_of x))

-- n is that length, or there is none
pub record FilledTo (s : Bytes) (x : Open) (n : ℕ) : Type 0 where
  pub is : filled_in s x ≡ true
  pub need : n ≡ need (limits_in x.head.limits)
  pub small : n ≤ need_most

pub record Unfilled (s : Bytes) (x : Open) : Type 0 where
  pub is : filled_in s x ≡ false

-- x was read from the area s, which holds q
pub record AreaAs (s : Bytes) (x : Area) (q : Queue) : Type 0 where
  pub persisted : q.persisted ≡ x.persisted.0
  pub store : StoreAs area_form s 4 x.open (store_of q)
  pub need : x.need ≡ need q.limits
  pub small : x.need ≤ need_most
  pub fits : x.open.next ≤ x.need
  pub long : x.need ≤ length s
  pub sound : sound? q ≡ true
  pub range : queue_c.ok q

-- the area s holds a sound queue, and a was read from it
pub record AreaIn (s : Bytes) (a : Area) : Type 0 where
  pub q : Queue
  pub is : read_area s ≡ some q
  pub read : AreaAs s a q

-- refusal 3: s holds no sound queue
pub record NoArea (s : Bytes) (e : Refusal) : Type 0 where
  pub refusal : e ≡ AreaNotSound
  pub is : read_area s ≡ none
