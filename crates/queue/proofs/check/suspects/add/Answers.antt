use Rattle.queue.proofs.check.SuspectsLaws.{grown_bad, grown_new, grown_out, grown_room}
use Rattle.std.specs.Prelude.{refl}
use Rattle.std.proofs.Common.{arith}
use Rattle.queue.proofs.check.suspects.add.Goals as goal

pub returns-then-m-v : goal.returns-then-m-v
returns-then-m-v c = (grown_room c.args.v.now c.args.m c.if-m-v.true refl, omega (arith, c.if-m-v.true))

pub returns-then-not-last : goal.returns-then-not-last
returns-then-not-last c = grown_out c.if-not-last.true

pub returns-then-crossed : goal.returns-then-crossed
returns-then-crossed c = grown_bad c.args.v.now c.crossed.ensures.1 c.args.m (omega (arith, c.if-m-v.false)) c.if-crossed.true

pub returns : goal.returns
returns c = (grown_new c.args.v.now c.crossed.ensures.1 c.args.m (omega (arith, c.if-m-v.false)) c.crossed.ensures.0 c.if-crossed.false (omega (arith, c.requires.4)) refl, omega (arith, c.requires.4))
