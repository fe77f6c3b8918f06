use Rattle.queue.proofs.bytes.PutLaws.{recast, then}
use Rattle.queue.specs.change.PlanAs.{lead_bytes}
use Rattle.std.specs.Prelude.{refl}
use Rattle.std.proofs.Common.{arith}
use Rattle.queue.proofs.change.write.put_lead.Goals as goal

pub returns : goal.returns
unfolding lead_bytes
returns c = recast (then (then (then (then c.put_u8-a.ensures c.put_id-b.ensures) c.put_be-c.ensures) c.put_be-d.ensures) c.put_be.ensures) refl (omega arith) refl
