use Rattle.std.specs.Prelude.{◌+◌, ◌≤◌, true, length, refl}
use Rattle.std.proofs.Common.{arith}
use Rattle.queue.proofs.bytes.PutLaws.{nothing, sized}
use Rattle.queue.specs.change.CallsAs.{id_if}
use Rattle.queue.proofs.change.calls.put_id_if.Goals as goal

pub put_id-requires : goal.put_id-requires
put_id-requires c = let h : c.args.at + length (id_if true c.args.id) ≤ length c.args.dst.now = rw c.if-hit.true at c.requires in omega arith

pub returns-then-hit : goal.returns-then-hit
returns-then-hit c = rw c.if-hit.true (sized c.put_id.ensures refl)

pub returns : goal.returns
returns c = rw c.if-hit.false (nothing _ _)
