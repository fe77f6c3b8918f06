-- What the parts of the changing calls ask and say.
use Rattle.std.specs.Prelude.{◌≡◌, Bool, true, false, cond, List, [], ◌++◌, ℕ, ◌+◌, ◌-◌, take, drop}
use Rattle.std.proofs.Math.Option.{some}
use Rattle.queue.specs.bytes.PutAs.{be_last}
use Rattle.queue.specs.layout.FrameCodec.{rec_c}
use Rattle.queue.specs.bytes.ViewAs.{view}
use Rattle.queue.specs.layout.FormsCodec.{Framed}
use Rattle.queue.specs.Areas.{read_area}
use Rattle.queue.specs.layout.FrameAs.{terms_at, SeenAs}
use Rattle.queue.specs.check.AreaAs.{AreaAs}
use Rattle.queue.specs.change.FinishAs.{picked}
use Rattle.queue.specs.read.ReadingAs.{Here}
use Rattle.queue.specs.paper.Records.{Bytes, Id, Rec, Queue}
use Rattle.queue.specs.paper.Lists.{filter, find, map}
use Rattle.queue.specs.paper.Sound.{holder?, mined?}
use Rattle.queue.specs.paper.Changing.{named?, cancel, expire}
use Rattle.queue.specs.Checked.{Outcome, told}
use Rattle.queue.specs.paper.Calls.{entry_bytes, ids_bytes}
use Rattle.queue.specs.declared.layout.frame.Seen.{Seen}
use Rattle.queue.specs.declared.check.area.Area.{Area}
use Rattle.queue.specs.declared.change.finish.Change.{Change}

-- the entry of a record once it is cancelled, as it is written
unfoldable pub end_bytes : Bytes → ℕ → Seen → Bytes
end_bytes s base x = ((((x.id ++ be_last 1 x.facts.caller) ++ be_last 1 4) ++ be_last 1 1) ++ take (x.mark - terms_at) (drop (base + terms_at) s)) ++ be_last 4 0

abbrev pub id_if : Bool → Id → Bytes
id_if hit id = cond hit id []

unfoldable pub picked_ids : Change → Id → List Rec → List Id
picked_ids c id l = map (λ r. r.id) (filter (picked c id) l)

-- the record of an id stands at `at` of an area
pub record FoundIn (s : Bytes) (a : Area) (id : Id) (at : ℕ) : Type 0 where
  pub q : Queue
  pub is : read_area s ≡ some q
  pub read : AreaAs s a q
  pub r : Rec
  pub found : find (named? id) q.recs ≡ some r
  pub here : Here s at r

-- it was read, and is a holder that is not Mined
pub record HeldIn (s : Bytes) (a : Area) (id : Id) (at : ℕ) (x : Seen) : Type 0 where
  pub q : Queue
  pub is : read_area s ≡ some q
  pub read : AreaAs s a q
  pub r : Rec
  pub found : find (named? id) q.recs ≡ some r
  pub seen : SeenAs (view false s at) x r × Framed rec_c false s at x.size r
  pub held : holder? r ≡ true
  pub unmined : mined? r ≡ false

-- what the rest of a cancellation gives back
abbrev pub CancelTold : Bytes → Id → Outcome → Bytes → Bytes → Type 0
CancelTold s id o next out = (q : Queue) → read_area s ≡ some q → o ≡ told entry_bytes next out (cancel id q)

abbrev pub ExpireTold : Bytes → ℕ → ℕ → Outcome → Bytes → Bytes → Type 0
ExpireTold s now height o next out = (q : Queue) → read_area s ≡ some q → o ≡ told ids_bytes next out (expire now height q)
