use Rattle.std.specs.Prelude.{false, refl}
use Rattle.queue.specs.bytes.ViewAs.{view_raw}
use Rattle.queue.proofs.change.AdmitExitLaws.{id_lent}
use Rattle.std.proofs.Common.{arith}
use Rattle.queue.proofs.change.admit.lent_id.Goals as goal

pub id-requires : goal.id-requires
id-requires c = rw c.new.ensures (omega (arith, view_raw {hex = false} c.args.id.now 0 refl, c.if-id-eq32.true))

pub returns-then-id-eq32 : goal.returns-then-id-eq32
returns-then-id-eq32 c = id_lent c.args.id.now c.if-id-eq32.true (rw c.new.ensures at c.id.ensures.is)

pub returns : goal.returns
returns c = λ e. absurd (c.if-id-eq32.false e)
