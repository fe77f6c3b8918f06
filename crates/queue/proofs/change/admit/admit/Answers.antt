use Rattle.std.proofs.Common.{arith}
use Rattle.queue.proofs.change.admit.admit.Goals as goal

pub admit_asked-requires : goal.admit_asked-requires
admit_asked-requires c = (record { caller = omega arith; now = omega arith; time = omega arith; height = omega arith; priority = omega arith; fee = omega arith; cost = omega arith; tipheight = omega arith }, c.lent_id-k.ensures)
