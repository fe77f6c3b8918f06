use Rattle.queue.proofs.change.finish.rank_next.Goals as goal

pub returns-then-hit : goal.returns-then-hit
returns-then-hit c = rw c.if-hit.true

pub returns : goal.returns
returns c = rw c.if-hit.false
