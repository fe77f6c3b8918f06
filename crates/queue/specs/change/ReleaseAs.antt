-- The Mined holders as rows of a table, and which of them are released.
use Rattle.std.specs.Prelude.{◌≡◌, Bool, false, cond, ◌&&◌, ◌||◌, List, [], ◌∷◌, ℕ, ◌+◌, ◌-◌, ◌≤◌, ◌<◌, ltb, leb, eqb, length, take}
use Rattle.queue.specs.layout.FrameCodec.{rec_c}
use Rattle.queue.specs.bytes.ViewAs.{view}
use Rattle.queue.specs.bytes.ReaderAs.{list_at}
use Rattle.queue.specs.bytes.ReaderLaws.{be_at}
use Rattle.queue.specs.layout.FormsCodec.{form_c}
use Rattle.queue.specs.read.SelectAs.{Row, row_of, Standing, id_of, RecStands}
use Rattle.queue.specs.change.AdmitAs.{height_of}
use Rattle.queue.specs.change.TouchAs.{as_touched, verdict_of_value}
use Rattle.queue.specs.paper.Records.{Bytes, Id, Limits, Rec}
use Rattle.queue.specs.paper.Lists.{total, filter, find, map, maybe}
use Rattle.queue.specs.paper.Ids.{same?}
use Rattle.queue.specs.paper.Sound.{content}
use Rattle.queue.specs.paper.Changing.{Applied, touch_found, mined_height}
use Rattle.queue.specs.paper.Decisions.{mined_holder?}
use Rattle.queue.specs.declared.layout.frame.Facts.{Facts}
use Rattle.queue.specs.declared.read.select.Ranked.{Ranked}
use Rattle.queue.specs.declared.layout.records.Records.{Records}
use Rattle.queue.specs.change.AdmitAs.{height_of}
use Rattle.queue.specs.change.TouchAs.{VerdictNumbers}

-- a record after the verdict on it
unfoldable pub next_r : Bool → List Id → List Applied → Rec → Rec
next_r caught own es r = maybe r (λ y. y) (touch_found caught own r (find (λ a. same? r.id a.id) es))

-- records after verdicts in numbers; the n records at `at`; and the Mined holders of these
unfoldable pub next_v : Bytes → List Rec → List ℕ → List Rec
next_v t [] v = []
next_v t (r ∷ l) [] = r ∷ next_v t l []
next_v t (r ∷ l) (c ∷ v) = maybe r (λ y. y) (as_touched t (verdict_of_value c) r) ∷ next_v t l v

unfoldable pub next_l : Bytes → ℕ → ℕ → Bytes → List ℕ → List Rec
next_l s at n t v = next_v t (list_at (form_c false rec_c) n s at) v

unfoldable pub mined_of : Bytes → Records → Bytes → List ℕ → List Rec
mined_of s recs t v = filter mined_holder? (next_l s recs.start recs.count t v)

unfoldable pub mined_f : ℕ → Facts → Bool
mined_f what f = (eqb what 1 || (eqb what 0 && eqb f.state 2)) && f.holder

unfoldable pub height_f : Bytes → VerdictNumbers → Facts → ℕ
height_f t v f = cond (eqb v.what 1) (be_at 4 (view false t 0) (v.at + 32)) (height_of f.mined).0

abbrev pub StandsAt : Bytes → Row → Type 0
StandsAt s w = RecStands s w.1.1

-- the byte count of the record at p
unfoldable pub bytes_at : Bytes → ℕ → ℕ
bytes_at s p = total (λ r. length (content r.body)) (list_at (form_c false rec_c) 1 s p)

pub record MinedRow (s : Bytes) (w : Row) (r : Rec) : Type 0 where
  pub height : w.0 ≡ mined_height r
  pub id : id_of s w ≡ r.id
  pub within : w.1.1 + 33 ≤ length s
  pub bytes : bytes_at s w.1.1 ≡ length (content r.body)
  pub stands : RecStands s w.1.1

-- rows for records, their second column falling from below b
abbrev pub FallingRows : Bytes → ℕ → List Row → List Rec → Type 0
FallingRows s b [] [] = Unit {0}
FallingRows s b [] (r ∷ l) = ⊥
FallingRows s b (w ∷ z) [] = ⊥
FallingRows s b (w ∷ z) (r ∷ l) = MinedRow s w r × (w.1.0 < b) × FallingRows s w.1.0 z l

abbrev pub MinedRows : Bytes → List Row → List Rec → Type 0
MinedRows s [] [] = Unit {0}
MinedRows s [] (r ∷ l) = ⊥
MinedRows s (w ∷ z) [] = ⊥
MinedRows s (w ∷ z) (r ∷ l) = MinedRow s w r × MinedRows s z l

pub record MinedGathered (s : Bytes) (n : ℕ) (l : List Rec) (room m : ℕ) (z : List Ranked) : Type 0 where
  pub size : length z ≡ room
  pub all : m ≡ length l
  pub listed : FallingRows s (n + 1) (map row_of (take m z)) l
  pub stand : Standing (map row_of (take m z))

-- the walk over rows
unfoldable pub walk_r : Limits → ℕ → ℕ → Bytes → ℕ → ℕ → List Row → List ℕ
walk_r m height window s seen bytes [] = []
walk_r m height window s seen bytes (w ∷ z) =
    cond (leb window (height - w.0) || (leb m.P seen || ltb m.B (bytes + bytes_at s w.1.1)))
    (w.1.1 ∷ walk_r m height window s (seen + 1) (bytes + bytes_at s w.1.1) z)
    (walk_r m height window s (seen + 1) (bytes + bytes_at s w.1.1) z)
