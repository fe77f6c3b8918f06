-- The byte of a record's reason.
use Rattle.std.specs.Prelude.{ℕ}
use Rattle.queue.specs.declared.layout.reason.Reason.{Reason}
use Rattle.queue.specs.declared.layout.reason.Reason.TheVariants.{None, Cancelled, DeadlineElapsed, RolledBackAfterRelease, RolledBack, InputsUnavailable}

abbrev pub reason_code : Reason → ℕ
reason_code None = 0
reason_code Cancelled = 1
reason_code DeadlineElapsed = 2
reason_code RolledBackAfterRelease = 3
reason_code RolledBack = 4
reason_code InputsUnavailable = 5
