use Rattle.queue.proofs.RefusalLaws.{unsound}
use Rattle.queue.proofs.read.ReadingLaws.{empty_is, number_100, number_3}
use Rattle.queue.specs.paper.Lists.{one, is_empty?}
use Rattle.queue.proofs.read.reading.is_empty.Goals as goal

pub returns-in_err-read : goal.returns-in_err-read
returns-in_err-read c = λ old. rw (unsound _ c.from_residual.ensures.1 c.in_err-read.ensures) (number_3 (λ q. one (is_empty? q.recs)) _ old c.in_err-read.ensures.is)

pub returns : goal.returns
returns c = λ old. number_100 (λ q. one (is_empty? q.recs)) _ old c.in_ok-read.ensures (λ q a. empty_is q.recs a.store.count)
