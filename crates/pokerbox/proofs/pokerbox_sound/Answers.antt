use Rattle.queue.specs.paper.Calls.{number}
use Rattle.std.proofs.Common.{ap}
use Rattle.pokerbox.proofs.pokerbox_sound.Goals as goal

pub returns : goal.returns
returns c = rw c.answered.ensures (ap number c.sound.ensures)
