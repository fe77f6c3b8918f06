use Rattle.queue.proofs.check.rules.place_right.Goals as goal

pub returns-then-placed : goal.returns-then-placed
returns-then-placed c = rw c.if-placed.true

pub returns-else-placed : goal.returns-else-placed
returns-else-placed c = rw c.if-placed.false
