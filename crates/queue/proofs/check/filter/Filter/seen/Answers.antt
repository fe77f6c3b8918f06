use Rattle.queue.proofs.check.filter.Filter.seen.Goals as goal

pub returns-clause-is : goal.returns-clause-is
returns-clause-is c = rw (← c.self.view_is) c.seen.ensures
