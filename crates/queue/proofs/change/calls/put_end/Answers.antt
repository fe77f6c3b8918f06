use Rattle.queue.proofs.bytes.PutLaws.{recast, then}
use Rattle.queue.specs.change.CallsAs.{end_bytes}
use Rattle.std.specs.Prelude.{refl}
use Rattle.std.proofs.Common.{arith}
use Rattle.queue.proofs.change.calls.put_end.Goals as goal

pub returns : goal.returns
unfolding end_bytes
returns c = recast (then (then (then (then (then c.put_id-w.ensures c.put_be-a.ensures) c.put_be-b.ensures) c.put_be-c.ensures) c.copy_part-d.ensures) c.put_be.ensures) refl (omega (arith, c.requires.0)) refl
