use Rattle.queue.specs.paper.Calls.{gives}
use Rattle.std.proofs.Common.{ap}
use Rattle.pokerbox.proofs.pokerbox_signed_bytes.Goals as goal

pub returns-in-Ok : goal.returns-in-Ok
returns-in-Ok c = rw c.answered.ensures (ap gives (c.in-Ok.ensures.is _))

pub returns-in-Err : goal.returns-in-Err
returns-in-Err c = rw c.number.ensures (ap gives (c.in-Err.ensures _))
