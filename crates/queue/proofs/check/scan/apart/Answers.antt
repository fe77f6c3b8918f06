use Rattle.std.proofs.Common.{arith}
use Rattle.queue.proofs.check.scan.apart.Goals as goal

pub apart_few-requires : goal.apart_few-requires
apart_few-requires c = (c.requires.0, c.requires.1)

pub returns-in-Some : goal.returns-in-Some
returns-in-Some c = c.in-Some.ensures.is

pub apart_long-requires : goal.apart_long-requires
apart_long-requires c = (c.requires.0, omega arith, omega arith, c.requires.1)

pub returns-then-form : goal.returns-then-form
returns-then-form c = c.apart_long.ensures

pub apart_long-requires-2 : goal.apart_long-requires-2
apart_long-requires-2 c = (c.requires.0, omega arith, omega arith, c.requires.1)

pub returns : goal.returns
returns c = c.apart_long-2.ensures
