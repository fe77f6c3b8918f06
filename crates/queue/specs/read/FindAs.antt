-- Where the record of an id stands among records, or would stand.
use Rattle.std.specs.Prelude.{◌≡◌, Bool, true, false, cond, List, [], ◌∷◌, ℕ, ◌+◌, eqb, length}
use Rattle.std.proofs.Math.Option.{some}
use Rattle.queue.specs.layout.FrameCodec.{rec_c}
use Rattle.queue.specs.layout.FormsCodec.{form_c}
use Rattle.queue.specs.layout.RecordsAs.{recs_at}
use Rattle.queue.specs.check.AreaAs.{records_of}
use Rattle.queue.specs.read.ReadingAs.{Here}
use Rattle.queue.specs.paper.Records.{Bytes, Id, Rec}
use Rattle.queue.specs.paper.Lists.{find}
use Rattle.queue.specs.paper.Ids.{cmp_l}
use Rattle.queue.specs.paper.Changing.{named?}
use Rattle.queue.specs.declared.check.area.Area.{Area}
use Rattle.queue.specs.declared.read.find.Spot.{Spot}
use Rattle.queue.specs.declared.read.find.Spot.TheVariants.{Occupied, Vacant}

-- a spot as numbers: whether a record stands there, where, and where the next one begins; both places are the same where none stands
pub record SpotNumbers : Type 0 where
  pub found : Bool
  pub at : ℕ
  pub next : ℕ

abbrev pub spot_numbers : Spot → SpotNumbers
spot_numbers (Occupied at next) = record { found = true; at = at; next = next }
spot_numbers (Vacant at) = record { found = false; at = at; next = at }

abbrev pub spot : Bool → ℕ → ℕ → SpotNumbers
spot found at next = record { found = found; at = at; next = next }

-- the first record whose id is not lower than z, of those that stand from `at` on
unfoldable pub spot_f : Id → ℕ → List Rec → SpotNumbers
spot_f z at [] = spot false at at
spot_f z at (r ∷ l) =
    cond (eqb (cmp_l z r.id) 0) (spot false at at)
    (cond (eqb (cmp_l z r.id) 1) (spot true at (at + length (rec_c.enc r))) (spot_f z (at + length (rec_c.enc r)) l))

-- x is that spot, and the record found stands there in s
pub record SpotAs (s : Bytes) (z : Id) (at : ℕ) (l : List Rec) (x : SpotNumbers) : Type 0 where
  pub is : x ≡ spot_f z at l
  pub here : x.found ≡ true → (r : Rec) × (find (named? z) l ≡ some r) × Here s x.at r

-- the records of an area as they stand in it
abbrev pub recs_in : Bytes → Area → List Rec
recs_in s a = recs_at (form_c false rec_c) s (records_of a.open)

abbrev pub SpotIn : Bytes → Area → Id → SpotNumbers → Type 0
SpotIn s a z x = SpotAs s z a.open.start (recs_in s a) x
