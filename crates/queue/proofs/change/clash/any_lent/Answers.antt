use Rattle.queue.proofs.change.ClashLaws.{any_end, any_go, any_stop}
use Rattle.queue.proofs.layout.TurnLaws.{id_room, start}
use Rattle.queue.specs.layout.FrameCodec.{id_c}
use Rattle.std.proofs.Common.{arith}
use Rattle.queue.proofs.change.clash.any_lent.Goals as goal

pub loop-left-init : goal.loop-left-init
loop-left-init c = start id_c _ _ _ _ _ c.requires.0 c.requires.1

pub is_lent-requires : goal.is_lent-requires
is_lent-requires c = (c.requires.2, c.requires.3, c.requires.4)

pub returns-then-is_lent : goal.returns-then-is_lent
returns-then-is_lent c = any_stop _ c.loop-left.invariant c.loop-left-test.true c.id-id.ensures.found c.is_lent.ensures c.if-is_lent.true

pub loop-left-preserved : goal.loop-left-preserved
loop-left-preserved c = any_go _ c.loop-left.invariant c.loop-left-test.true c.id-id.ensures.found c.is_lent.ensures c.if-is_lent.false

pub returns : goal.returns
returns c = any_end _ c.loop-left.invariant (omega arith)

pub id-id-requires : goal.id-id-requires
id-id-requires c = id_room c.loop-left.invariant c.loop-left-test.true
