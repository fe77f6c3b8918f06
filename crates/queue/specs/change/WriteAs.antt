-- What is asked of and said by the functions that write a whole area from an area.
use Rattle.std.specs.Prelude.{◌≡◌, Option, Bool, true, false, ℕ, ◌+◌, ◌%◌, ◌^◌, ◌≤◌, ◌<◌, length}
use Rattle.std.proofs.Math.Option.{some}
use Rattle.queue.specs.Codec.{All, opt_c}
use Rattle.queue.specs.layout.FrameCodec.{Head, id_c, rec_c}
use Rattle.queue.specs.bytes.ReaderAs.{list_at}
use Rattle.queue.specs.bytes.ViewAs.{view}
use Rattle.queue.specs.layout.FormsCodec.{form_c, queue_c}
use Rattle.queue.specs.layout.FrameAs.{HeadAs}
use Rattle.queue.specs.Areas.{read_area}
use Rattle.queue.specs.check.AreaAs.{AreaAs}
use Rattle.queue.specs.layout.HeadAs.{tip_in}
use Rattle.queue.specs.change.FinishAs.{picked, end_state, end_reason}
use Rattle.queue.specs.paper.Records.{Bytes, Id, Rec, Queue}
use Rattle.queue.specs.paper.Lists.{count}
use Rattle.queue.specs.paper.Sound.{need, holder?}
use Rattle.queue.specs.paper.Area.{area_bytes, over}
use Rattle.queue.specs.paper.Changing.{moved, committed, finish_those, forget}
use Rattle.queue.specs.declared.layout.frame.Head as code_head
use Rattle.queue.specs.declared.layout.frame.Height.{Height}
use Rattle.queue.specs.declared.layout.head.Marks.{Marks}
use Rattle.queue.specs.declared.check.area.Area.{Area}
use Rattle.queue.specs.declared.change.finish.Change.{Change}

-- h was read from an area
abbrev pub HeadIn : Bytes → code_head.Head → Type 0
HeadIn s h = (x : Head) × HeadAs (view false s 4) h x × (opt_c id_c).ok x.tip

abbrev pub TipIs : Bytes → code_head.Head → Option Id → Type 0
TipIs s h r = (x : Head) → HeadAs (view false s 4) h x → (opt_c id_c).ok x.tip → tip_in r ≡ x.tip

-- a was read from s, and the queue fits with the new cursor
pub record MovedFrom (s : Bytes) (a : Area) (persisted cursor : Height) (tip : Option Id) : Type 0 where
  pub q : Queue
  pub is : read_area s ≡ some q
  pub read : AreaAs s a q
  pub fits : length (queue_c.enc (moved persisted.0 cursor.0 (tip_in tip) q)) ≤ need q.limits
  pub small : persisted.0 < 4294967296
  pub small_cursor : cursor.0 < 4294967296

abbrev pub MovedTo : Bytes → Area → Height → Height → Option Id → Bytes → Bytes → Type 0
MovedTo s a persisted cursor tip d d' = (q : Queue) → read_area s ≡ some q → d' ≡ over (area_bytes (moved persisted.0 cursor.0 (tip_in tip) q)) d

-- the front of a queue that is committed with m records finished and so many kept, under the cursor that it has
abbrev pub marks_after : code_head.Head → Option Id → ℕ → ℕ → Marks
marks_after h tip m kept = record { persisted = h.cursor; revision = (h.revision + 1) % 2 ^ 64; cursor = h.cursor; tip = tip; counter = record { 0 = h.counter.0 + m }; count = kept }

-- the queue with those picked finished, and the lowest numbers beyond T forgotten
unfoldable pub ended : (Rec → Bool) → ℕ → ℕ → Queue → Queue
ended p state reason q =
    committed q.cursor q.tip (q.counter + count p q.recs) (forget q.limits.T (finish_those p state reason q.counter q.recs)) q

-- a was read from s; m are picked, holders all of them; there are numbers for them, and what comes of it fits
pub record EndedFrom (s : Bytes) (a : Area) (c : Change) (id : Id) (m : ℕ) : Type 0 where
  pub q : Queue
  pub is : read_area s ≡ some q
  pub read : AreaAs s a q
  pub hits : m ≡ count (picked c id) (list_at (form_c false rec_c) a.open.head.count s a.open.start)
  pub picks : All (λ r. picked c id r ≡ true → holder? r ≡ true) q.recs
  pub few : m ≤ a.open.head.count
  pub room : a.open.head.counter.0 + m < 18446744073709551616
  pub fits : length (queue_c.enc (ended (picked c id) (end_state c) (end_reason c) q)) ≤ need q.limits

abbrev pub EndedTo : Bytes → Area → Change → Id → Bytes → Bytes → Type 0
EndedTo s a c id d d' = (q : Queue) → read_area s ≡ some q → d' ≡ over (area_bytes (ended (picked c id) (end_state c) (end_reason c) q)) d
