use Rattle.queue.proofs.change.plan.fate_of.Goals as goal

pub number_of-n-requires : goal.number_of-n-requires
number_of-n-requires g c = c.requires

pub returns-then-stays : goal.returns-then-stays
returns-then-stays g c = rw (← c.number_of-n.ensures, ← c.stays.ensures, c.if-stays.true)

pub returns : goal.returns
returns g c = rw (← c.number_of-n.ensures, ← c.stays.ensures, c.if-stays.false)
