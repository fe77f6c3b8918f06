-- The byte of a record's state.
use Rattle.std.specs.Prelude.{ℕ}
use Rattle.queue.specs.declared.layout.state.State.{State}
use Rattle.queue.specs.declared.layout.state.State.TheVariants.{Queued, Mined, Conflicted, Cancelled, Expired}

abbrev pub state_code : State → ℕ
state_code Queued = 0
state_code Mined = 2
state_code Conflicted = 3
state_code Cancelled = 4
state_code Expired = 5
