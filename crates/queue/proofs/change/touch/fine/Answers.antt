use Rattle.queue.proofs.change.TouchLaws.{fine_end, fine_go, fine_stop}
use Rattle.queue.proofs.layout.TurnLaws.{start, id_room}
use Rattle.queue.specs.layout.FrameCodec.{id_c}
use Rattle.std.proofs.Common.{arith}
use Rattle.queue.proofs.change.touch.fine.Goals as goal

pub loop-left-init : goal.loop-left-init
loop-left-init c = start id_c _ _ _ _ _ c.requires.2 c.requires.3

pub owned-requires : goal.owned-requires
owned-requires c = (c.requires.0, c.requires.1)

pub returns-then-not-owned : goal.returns-then-not-owned
returns-then-not-owned c = fine_stop _ c.loop-left.invariant c.loop-left-test.true c.id-id.ensures.found c.owned.ensures c.if-not-owned.true

pub loop-left-preserved : goal.loop-left-preserved
loop-left-preserved c = fine_go _ c.loop-left.invariant c.loop-left-test.true c.id-id.ensures.found c.owned.ensures c.if-not-owned.false

pub returns : goal.returns
returns c = fine_end _ c.loop-left.invariant (omega arith)

pub id-id-requires : goal.id-id-requires
id-id-requires c = id_room c.loop-left.invariant c.loop-left-test.true
