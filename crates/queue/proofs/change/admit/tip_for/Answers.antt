use Rattle.std.specs.Prelude.{false, refl}
use Rattle.queue.specs.bytes.ViewAs.{view_raw}
use Rattle.queue.specs.change.AdmitAs.{raw}
use Rattle.queue.proofs.change.AdmitExitLaws.{tip_asked, tip_none, tip_own}
use Rattle.std.proofs.Common.{arith}
use Rattle.queue.proofs.change.admit.tip_for.Goals as goal

pub tip_at-i-requires : goal.tip_at-i-requires
tip_at-i-requires c = c.requires.0

pub returns-then-h-gt0 : goal.returns-then-h-gt0
returns-then-h-gt0 c = tip_own c.args.s.now c.args.h c.tip_at-i.result (raw c.args.x) c.args.tip.now c.if-h-gt0.true c.tip_at-i.ensures

pub id-i-requires : goal.id-i-requires
id-i-requires c = rw c.new.ensures (omega (arith, view_raw {hex = false} c.args.tip.now 0 refl, c.requires.1 c.if-x-eq1.true))

pub returns-then-x-eq1 : goal.returns-then-x-eq1
returns-then-x-eq1 c = tip_asked c.args.s.now c.args.h (raw c.args.x) c.args.tip.now c.if-h-gt0.false c.if-x-eq1.true (c.requires.1 c.if-x-eq1.true) (rw c.new.ensures at c.id-i.ensures.is)

pub returns : goal.returns
returns c = tip_none c.args.s.now c.args.h (raw c.args.x) c.args.tip.now c.if-h-gt0.false c.if-x-eq1.false
