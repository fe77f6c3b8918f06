use Rattle.queue.proofs.check.ReadsLaws.{asked_passed, asking, asking_end, asking_go, asking_odd, passes_no, passes_yes}
use Rattle.queue.proofs.layout.TurnLaws.{id_fits}
use Rattle.std.specs.Prelude.{refl}
use Rattle.std.proofs.Common.{arith}
use Rattle.queue.proofs.check.reads.pass_reads.Goals as goal

pub loop-left-init : goal.loop-left-init
loop-left-init c = asking c.args.form.hex _ _ _ _ _ _ _ c.requires.3 c.requires.4 refl

pub id-id-requires : goal.id-id-requires
id-id-requires c = id_fits _ c.loop-left.invariant.within c.loop-left.invariant.whole c.loop-left-test.true

pub pass_read-requires : goal.pass_read-requires
pass_read-requires c = (c.requires.0, c.requires.1, c.requires.2, asking_odd c.loop-left.invariant c.loop-left-test.true c.id-id.ensures.found c.requires.5)

pub returns-then-not-pass_read : goal.returns-then-not-pass_read
returns-then-not-pass_read c = passes_no c.pass_read.ensures c.if-not-pass_read.true

pub loop-left-preserved : goal.loop-left-preserved
loop-left-preserved c = asking_go c.loop-left.invariant c.loop-left-test.true c.id-id.ensures.found (asked_passed c.pass_read.ensures c.if-not-pass_read.false)

pub returns : goal.returns
returns c = passes_yes (asking_end c.loop-left.invariant (omega arith))
