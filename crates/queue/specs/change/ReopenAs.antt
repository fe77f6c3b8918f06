-- Reopening as the code goes, and what its parts ask and say.
use Rattle.std.specs.Prelude.{◌≡◌, Bool, true, false, cond, ◌&&◌, List, [], ℕ, ◌≤◌, eqb, length}
use Rattle.std.proofs.Math.Option.{some}
use Rattle.queue.specs.layout.FrameCodec.{id_c}
use Rattle.queue.specs.bytes.ViewAs.{view}
use Rattle.queue.specs.bytes.ReaderAs.{whole, list_at}
use Rattle.queue.specs.layout.FormsCodec.{queue_c}
use Rattle.queue.specs.Areas.{read_area}
use Rattle.queue.specs.check.AreaAs.{AreaAs}
use Rattle.queue.specs.paper.Ids.{rise?}
use Rattle.queue.specs.paper.Records.{Bytes, Id, Rec, Queue}
use Rattle.queue.specs.paper.Lists.{map}
use Rattle.queue.specs.paper.Sound.{need, among?}
use Rattle.queue.specs.paper.Area.{area_bytes, over}
use Rattle.queue.specs.paper.Changing.{committed, reopened, listed?, reopen}
use Rattle.queue.specs.Checked.{Outcome, told}
use Rattle.queue.specs.paper.Calls.{nothing_bytes}
use Rattle.queue.specs.declared.layout.frame.Seen.{Seen}
use Rattle.queue.specs.declared.check.area.Area.{Area}

-- lent ids: k of them stand in t, these
abbrev pub IdsIn : Bytes → ℕ → Type 0
IdsIn t k = whole id_c k (view false t 0) 0 ≡ true

abbrev pub ids_at : Bytes → ℕ → List Id
ids_at t k = list_at id_c k (view false t 0) 0

-- and they rise
pub record IdsRise (t : Bytes) (k : ℕ) : Type 0 where
  pub all : IdsIn t k
  pub rise : rise? (ids_at t k) ≡ true

-- is a record that was read listed?
unfoldable pub listed_s : List Id → Seen → Bool
listed_s ids x = eqb x.facts.state 2 && among? x.id ids

unfoldable pub again : List Id → Rec → Rec
again ids r = cond (listed? ids r) (reopened r) r

unfoldable pub again_q : List Id → Queue → Queue
again_q ids q = committed q.cursor q.tip q.counter (map (again ids) q.recs) q

-- a was read from s, and the queue fits once the listed are reopened
pub record AgainFrom (s : Bytes) (a : Area) (ids : List Id) : Type 0 where
  pub q : Queue
  pub is : read_area s ≡ some q
  pub read : AreaAs s a q
  pub fits : length (queue_c.enc (again_q ids q)) ≤ need q.limits

abbrev pub AgainTo : Bytes → List Id → Bytes → Bytes → Type 0
AgainTo s ids d d' = (q : Queue) → read_area s ≡ some q → d' ≡ over (area_bytes (again_q ids q)) d

-- what the rest of a reopening gives back
abbrev pub ReopenTold : Bytes → List Id → Outcome → Bytes → Type 0
ReopenTold s ids o next = (q : Queue) → read_area s ≡ some q → o ≡ told nothing_bytes next [] (reopen ids q)
