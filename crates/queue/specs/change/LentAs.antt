-- What is lent to a reconciliation, and what is known of it once it was checked.
use Rattle.std.specs.Prelude.{◌≡◌, Bool, true, ◌&&◌, ℕ, ◌/◌, length, take}
use Rattle.queue.specs.theorems.Arguments.{Small}
use Rattle.queue.specs.change.ReopenAs.{IdsRise, ids_at}
use Rattle.queue.specs.change.TouchAs.{applied_in, EntriesRise}
use Rattle.queue.specs.paper.Ids.{rise?}
use Rattle.queue.specs.paper.Records.{Bytes}
use Rattle.queue.specs.paper.Lists.{map}
use Rattle.queue.specs.paper.Calls.{id?, whole?, flag?, items, applied_of}

-- check 5 in parts
pub record EntriesAre (t : Bytes) (r : Bool) : Type 0 where
  pub is : r ≡ (whole? 68 t && rise? (map (take 32) (items 68 t)))
  pub small : Small t

pub record IdsAre (ids : Bytes) (r : Bool) : Type 0 where
  pub is : r ≡ (whole? 32 ids && rise? (items 32 ids))
  pub good : r ≡ true → IdsRise ids (length ids / 32) × (ids_at ids (length ids / 32) ≡ items 32 ids)

-- what is known where it passes
pub record ReconcileGood (tip t ids : Bytes) : Type 0 where
  pub long : length tip ≡ 32
  pub entries : EntriesRise t (length t / 68)
  pub applied : applied_in t (length t / 68) ≡ map applied_of (items 68 t)
  pub rise : IdsRise ids (length ids / 32)
  pub available : ids_at ids (length ids / 32) ≡ items 32 ids

pub record ReconcileAsked (tip : Bytes) (flag : ℕ) (t ids : Bytes) (r : Bool) : Type 0 where
  pub is : r ≡ ((id? tip && flag? flag) && ((whole? 68 t && rise? (map (take 32) (items 68 t))) && (whole? 32 ids && rise? (items 32 ids))))
  pub small_tip : Small tip
  pub small_applied : Small t
  pub good : r ≡ true → ReconcileGood tip t ids
