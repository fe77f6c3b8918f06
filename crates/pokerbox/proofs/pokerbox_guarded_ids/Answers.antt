use Rattle.queue.specs.paper.Calls.{gives}
use Rattle.std.proofs.Common.{ap}
use Rattle.pokerbox.proofs.pokerbox_guarded_ids.Goals as goal

pub returns : goal.returns
returns c = rw c.answered.ensures (ap gives c.guarded_ids.ensures)
