use Rattle.queue.proofs.RefusalLaws.{unsound}
use Rattle.queue.proofs.check.AreaLaws.{recs_stand}
use Rattle.queue.proofs.read.ReadingLaws.{due_sum, number_100, number_3}
use Rattle.queue.specs.paper.Lists.{any?, one}
use Rattle.queue.specs.paper.Changing.{due?}
use Rattle.queue.specs.paper.Reading.{deadline_due?}
use Rattle.std.proofs.Common.{ap, ◌∙◌}
use Rattle.std.specs.Prelude.{ltb}
use Rattle.queue.proofs.read.reading.deadline_due.Goals as goal

pub returns-in_err-a : goal.returns-in_err-a
returns-in_err-a c = λ old. rw (unsound _ c.from_residual.ensures.1 c.in_err-a.ensures) (number_3 (λ q. one (deadline_due? c.args.time.0 c.args.height.0 q)) _ old c.in_err-a.ensures.is)

pub tally-requires : goal.tally-requires
tally-requires c = let w = c.in_ok-a.ensures.read.store in (recs_stand w, w.head.count_small)

pub returns : goal.returns
unfolding deadline_due?
returns c = λ old. number_100 (λ q. one (deadline_due? c.args.time.0 c.args.height.0 q)) _ old c.in_ok-a.ensures (λ q a. ap (λ n. one (ltb 0 n)) c.tally.ensures.0 ∙ ap one (due_sum c.args.time c.args.height _) ∙ ap (λ l. one (any? (due? c.args.time.0 c.args.height.0) l)) a.store.list)
