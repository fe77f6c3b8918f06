use Rattle.queue.proofs.bytes.PutLaws.{recast, then}
use Rattle.queue.specs.layout.HeadAs.{marks_bytes}
use Rattle.std.specs.Prelude.{refl}
use Rattle.std.proofs.Common.{arith}
use Rattle.queue.proofs.layout.head.put_marks.Goals as goal

pub returns : goal.returns
unfolding marks_bytes
returns c = recast (then (then (then c.put_be-a.ensures c.put_tip-b.ensures) c.put_be-c.ensures) c.put_be.ensures) refl (omega arith) refl
