use Rattle.std.proofs.Common.{ap}
use Rattle.std.specs.Prelude.{not}
use Rattle.queue.proofs.read.ParentsLaws.{raise_in, raise_off, raise_out}
use Rattle.queue.proofs.read.parents.raise_if.Goals as goal

pub returns-then-not-odd : goal.returns-then-not-odd
returns-then-not-odd c = raise_off c.args.odd _ _ (ap not c.if-not-odd.true)

pub returns-then-cs-k : goal.returns-then-cs-k
returns-then-cs-k c = raise_out c.args.odd c.args.k _ _ (ap not c.if-not-odd.false) c.if-cs-k.true

pub returns : goal.returns
returns c = raise_in c.args.odd _ _ (ap not c.if-not-odd.false)
