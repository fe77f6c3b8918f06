-- Reconciliation as the code goes, and what its parts ask and say.
use Rattle.std.specs.Prelude.{◌≡◌, Bool, false, cond, not, ◌||◌, ◌⊎◌, List, ◌∷◌, ◌++◌, ℕ, ◌+◌, ◌≤◌, min, ltb, leb, length, ◌≢◌}
use Rattle.std.proofs.Math.Option.{some}
use Rattle.queue.specs.check.NumbersAs.{above}
use Rattle.queue.specs.layout.FrameCodec.{rec_c}
use Rattle.queue.specs.bytes.ReaderAs.{list_at}
use Rattle.queue.specs.layout.FormsCodec.{form_c}
use Rattle.queue.specs.check.AreaAs.{records_of}
use Rattle.queue.specs.check.RulesAs.{sum}
use Rattle.queue.specs.Codec.{All}
use Rattle.queue.specs.bytes.PutAs.{be_last}
use Rattle.queue.specs.Areas.{read_area}
use Rattle.queue.specs.change.ReopenAs.{IdsRise, ids_at}
use Rattle.queue.specs.theorems.Arguments.{Small}
use Rattle.queue.specs.theorems.ReconcileKeeps.{Reconcilable}
use Rattle.queue.specs.change.PlanAs.{Planned}
use Rattle.queue.specs.read.SelectAs.{id_at}
use Rattle.queue.specs.change.TouchAs.{applied_in, EntriesRise, JudgedAt}
use Rattle.queue.specs.paper.Records.{Bytes, Id, Queue}
use Rattle.queue.specs.paper.Lists.{is_some, one, any?, map, concat, is_empty?}
use Rattle.queue.specs.paper.Area.{area_bytes, over}
use Rattle.queue.specs.paper.Changing.{Reconciling, touch, release_one, trimmed, committed, moved, top_height, reconcile, own_of, touched_recs, to_release}
use Rattle.queue.specs.paper.Decisions.{decisions}
use Rattle.queue.specs.Checked.{Outcome, told}
use Rattle.queue.specs.paper.Calls.{released_bytes}
use Rattle.queue.specs.declared.check.area.Area.{Area}
use Rattle.queue.specs.declared.change.block.Block.{Block}
use Rattle.queue.specs.declared.Kind.{Kind}
use Rattle.queue.specs.declared.Kind.TheVariants.{Memory, Cursor}
use Rattle.queue.specs.paper.Answer.{Answer, Done}
use Rattle.queue.specs.declared.check.rules.Query.TheVariants.{Tombstones}

-- what is lent: applied entries in t, available ids in ids
abbrev pub asked : Block → Bytes → Bytes → Reconciling
asked b t ids = record { height = b.height.0; tip = b.tip; applied = applied_in t b.entries; caught_up = b.caught; available = ids_at ids b.available; window = b.window }

pub record LentTo (b : Block) (t ids : Bytes) : Type 0 where
  pub ok : Reconcilable (asked b t ids)
  pub entries : EntriesRise t b.entries
  pub rise : IdsRise ids b.available
  pub small : Small t
  pub long : length b.tip ≡ 32

-- a verdict on each record
pub record JudgedIn (s : Bytes) (a : Area) (b : Block) (t ids : Bytes) (v : List ℕ) : Type 0 where
  pub all : JudgedAt s (records_of a.open) b t ids v

-- whether a verdict changed a record
unfoldable pub any_touched : Reconciling → Queue → Bool
any_touched c q = any? (λ r. is_some (touch c (own_of c q) r)) q.recs

-- the queue of a whole write
unfoldable pub whole_q : Reconciling → Queue → Queue
whole_q c q =
    committed c.height (some c.tip) (q.counter + length (to_release c q)) (trimmed q.limits.T (to_release c q) (map (release_one q.counter (to_release c q)) (touched_recs c q))) q

-- the places of the released, in the order of the walk
pub record GoneAre (s : Bytes) (c : Reconciling) (gone : List ℕ) : Type 0 where
  pub are : (q : Queue) → read_area s ≡ some q → map (id_at s) gone ≡ to_release c q
  pub placed : All (λ p. p + 33 ≤ length s) gone
  pub few : length gone ≤ 2048

-- how many Mined holders the walk decided
abbrev pub DecidedAre : Bytes → Reconciling → ℕ → Type 0
DecidedAre s c n = (q : Queue) → read_area s ≡ some q → n ≡ length (decisions c q)

-- did a record change, or is one released?
abbrev pub ChangedIs : Bytes → Reconciling → Bool → Type 0
ChangedIs s c b = (q : Queue) → read_area s ≡ some q → b ≡ (any_touched c q || not (is_empty? (to_release c q)))

-- what a reconciliation that changes nothing leaves: kind 3 or 1, and the cursor
abbrev pub cursor_kind : ℕ → ℕ → Kind
cursor_kind persisted height = cond (leb (min (persisted + 32) top_height) height) Cursor Memory

abbrev pub cursor_to : ℕ → Id → Queue → Queue
cursor_to height tip q = moved (cond (leb (min (q.persisted + 32) top_height) height) height q.persisted) height (some tip) q

abbrev pub CursorTold : Bytes → ℕ → Id → Answer → Bytes → Bytes → Type 0
CursorTold s height tip r d d' = (q : Queue) → read_area s ≡ some q → (r ≡ Done (cursor_kind q.persisted height)) × (d' ≡ over (area_bytes (cursor_to height tip q)) d)

abbrev pub WholeTo : Bytes → Reconciling → Bytes → Bytes → Type 0
WholeTo s c d d' = (q : Queue) → read_area s ≡ some q → d' ≡ over (area_bytes (whole_q c q)) d

-- the rows for it
abbrev pub WholePlan : Bytes → Area → Reconciling → Bytes → List ℕ → List ℕ → ℕ → Type 0
WholePlan s a c t vs rows kept = (q : Queue) → read_area s ≡ some q → Planned s a t vs rows (whole_q c q).recs kept

-- the floor's contract, where any is released
abbrev pub FloorFor : Bytes → Area → ℕ → ℕ → Type 0
FloorFor s a g f =
    (g ≡ 0 → f ≡ 0)
    × ((g ≢ 0) → ((sum Tombstones (list_at (form_c false rec_c) a.open.head.count s a.open.start) + g ≤ a.open.head.limits.t) × (f ≡ 0))
    ⊎ ((x : ℕ) → ltb (above a.open.head.counter.0 g (list_at (form_c false rec_c) a.open.head.count s a.open.start) x) a.open.head.limits.t ≡ leb f x))

-- the answer's bytes, where ids are those of the places gone
unfoldable pub gone_bytes : Bytes → Bool → List ℕ → Bytes
gone_bytes s changed gone = (one changed ∷ be_last 4 (length gone)) ++ concat (map (id_at s) gone)

-- what the rest of a reconciliation gives back
abbrev pub ReconcileTold : Bytes → Reconciling → Outcome → Bytes → Bytes → Type 0
ReconcileTold s c o next out = (q : Queue) → read_area s ≡ some q → o ≡ told released_bytes next out (reconcile c q)
