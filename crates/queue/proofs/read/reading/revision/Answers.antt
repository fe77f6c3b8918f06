use Rattle.queue.proofs.RefusalLaws.{unsound}
use Rattle.queue.proofs.read.ReadingLaws.{number_100, number_3}
use Rattle.std.proofs.Common.{sym}
use Rattle.queue.proofs.read.reading.revision.Goals as goal

pub returns-in_err-read : goal.returns-in_err-read
returns-in_err-read c = λ old. rw (unsound _ c.from_residual.ensures.1 c.in_err-read.ensures) (number_3 (λ q. q.revision) _ old c.in_err-read.ensures.is)

pub returns : goal.returns
returns c = λ old. number_100 (λ q. q.revision) _ old c.in_ok-read.ensures (λ q a. sym a.store.head.revision)
