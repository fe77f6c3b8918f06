-- The number of what becomes of a record: the low digits of a row, and of a reconciliation's verdict.
use Rattle.std.specs.Prelude.{ℕ}
use Rattle.queue.specs.declared.change.verdict.Verdict.{Verdict}
use Rattle.queue.specs.declared.change.verdict.Verdict.TheVariants.{Stays, Confirmed, Queued, Conflicted, Reopened, Cancelled, Expired, Forgotten}

abbrev pub verdict_code : Verdict → ℕ
verdict_code Stays = 0
verdict_code Confirmed = 1
verdict_code Queued = 2
verdict_code Conflicted = 3
verdict_code Reopened = 4
verdict_code Cancelled = 5
verdict_code Expired = 6
verdict_code Forgotten = 7
