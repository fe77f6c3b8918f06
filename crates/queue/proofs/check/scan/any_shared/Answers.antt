use Rattle.queue.proofs.check.FilterLaws.{passing, passing_end, passing_go, passing_stop}
use Rattle.std.proofs.Common.{arith}
use Rattle.queue.proofs.layout.TurnLaws.{id_fits}
use Rattle.queue.proofs.check.scan.any_shared.Goals as goal

pub loop-left-init : goal.loop-left-init
loop-left-init c = passing _ _ _ _ _ c.requires.1 c.requires.2

pub shared-requires : goal.shared-requires
shared-requires c = c.requires.0

pub returns-then-shared : goal.returns-then-shared
returns-then-shared c = passing_stop c.loop-left.invariant c.loop-left-test.true c.id-id.ensures.found c.shared.ensures c.if-shared.true

pub loop-left-preserved : goal.loop-left-preserved
loop-left-preserved c = passing_go c.loop-left.invariant c.loop-left-test.true c.id-id.ensures.found c.shared.ensures c.if-shared.false

pub returns : goal.returns
returns c = passing_end c.loop-left.invariant (omega arith)

pub id-id-requires : goal.id-id-requires
id-id-requires c = id_fits _ c.loop-left.invariant.within c.loop-left.invariant.whole c.loop-left-test.true
