use Rattle.queue.proofs.check.filter.Filter.mark.Goals as goal

pub returns-clause-is : goal.returns-clause-is
returns-clause-is c = rw (← c.self.view_is) c.mark.ensures
