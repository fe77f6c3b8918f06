use Rattle.std.proofs.Common.{ap}
use Rattle.std.specs.Prelude.{not}
use Rattle.queue.proofs.read.LinksLaws.{cleared, untouched, zeros}
use Rattle.queue.proofs.read.links.clear.Goals as goal

pub returns-then-not-go : goal.returns-then-not-go
returns-then-not-go c = untouched (ap not c.if-not-go.true)

pub returns : goal.returns
returns c = cleared (ap not c.if-not-go.false) (zeros _ (c.fill.ensures.after (λ y h. h)))
