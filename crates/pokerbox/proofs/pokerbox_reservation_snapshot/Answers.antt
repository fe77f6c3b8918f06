use Rattle.queue.specs.paper.Calls.{gives}
use Rattle.std.proofs.Common.{ap}
use Rattle.pokerbox.proofs.pokerbox_reservation_snapshot.Goals as goal

pub returns : goal.returns
returns c = rw c.answered.ensures (ap gives c.reservation_snapshot.ensures)
