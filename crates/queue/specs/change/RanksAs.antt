-- The ranks of the released, and the records after a reconciliation.
use Rattle.std.specs.Prelude.{◌≡◌, false, cond, List, ℕ, ◌+◌, ◌<◌, eqb, length, get_or}
use Rattle.queue.specs.read.SelectAs.{id_at}
use Rattle.queue.specs.check.SuspectsAs.{id_r, no_r, Shuffled, InOrder}
use Rattle.queue.specs.change.ReleaseAs.{next_l}
use Rattle.queue.specs.change.PlanAs.{stay_r}
use Rattle.queue.specs.paper.Records.{Bytes, Id, Rec, mined}
use Rattle.queue.specs.paper.Lists.{filter, map}
use Rattle.queue.specs.paper.Changing.{finished, release_one}
use Rattle.queue.specs.declared.check.area.Area.{Area}

-- a row for each of the records at these places: its id, and its rank from 1 on; and such rows in order
pub record RankRows (s : Bytes) (gone rows : List ℕ) : Type 0 where
  pub long : length rows ≡ length gone
  pub at : (j : ℕ) → j < length gone → (id_r false s (get_or rows j 0) ≡ id_at s (get_or gone j 0)) × (no_r (get_or rows j 0) ≡ j + 1)

pub record Ranked (s : Bytes) (gone rows : List ℕ) : Type 0 where
  pub first : List ℕ
  pub are : RankRows s gone first
  pub kept : Shuffled first rows
  pub order : InOrder false s rows
  pub small : length s < 4294967296

-- a record, released with the number n where that is not 0
unfoldable pub numbered : ℕ → Rec → Rec
numbered n r = cond (eqb n 0) r (finished mined 0 n r)

-- the records that are written: after their verdicts, those of the ids released, and without those below the floor
unfoldable pub kept_of : ℕ → ℕ → List Id → List Rec → List Rec
kept_of c floor ids l = filter (stay_r floor) (map (release_one c ids) l)

unfoldable pub kept_l : Bytes → ℕ → ℕ → Bytes → List ℕ → List ℕ → ℕ → ℕ → List Rec
kept_l s at n t v gone c floor = kept_of c floor (map (id_at s) gone) (next_l s at n t v)

-- those of an area
abbrev pub kept_in : Bytes → Area → Bytes → List ℕ → List ℕ → ℕ → List Rec
kept_in s a t v gone floor = kept_l s a.open.start a.open.head.count t v gone a.open.head.counter.0 floor
