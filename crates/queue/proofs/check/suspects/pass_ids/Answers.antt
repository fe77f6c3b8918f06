use Rattle.queue.proofs.check.SuspectsLaws.{meets_end, meets_go, meets_stop}
use Rattle.queue.proofs.layout.TurnLaws.{id_found, id_room, start}
use Rattle.queue.specs.layout.FrameCodec.{id_c}
use Rattle.std.proofs.Common.{arith}
use Rattle.queue.specs.bytes.ViewAs.{view_fits}
use Rattle.queue.proofs.check.suspects.pass_ids.Goals as goal

pub loop-left-init : goal.loop-left-init
loop-left-init c = start id_c _ _ _ _ _ c.requires.0 c.requires.1

pub row_at-y-requires : goal.row_at-y-requires
row_at-y-requires c = (id_room c.loop-left.invariant c.loop-left-test.true, c.requires.2, c.requires.3)

pub any_later-requires : goal.any_later-requires
any_later-requires c = c.requires.4

pub returns-then-any_later : goal.returns-then-any_later
returns-then-any_later c = meets_stop c.args.hex c.args.s.now c.args.v.now c.args.k c.loop-left.invariant _ c.loop-left-test.true (id_found c.loop-left.invariant c.loop-left-test.true) c.row_at-y.ensures.0 c.row_at-y.ensures.1 c.any_later.ensures c.if-any_later.true

pub loop-left-preserved : goal.loop-left-preserved
loop-left-preserved c = meets_go c.args.hex c.args.s.now c.args.v.now c.args.k c.loop-left.invariant _ c.loop-left-test.true (id_found c.loop-left.invariant c.loop-left-test.true) c.row_at-y.ensures.0 c.row_at-y.ensures.1 c.any_later.ensures c.if-any_later.false

pub returns : goal.returns
returns c = meets_end c.args.hex c.args.s.now c.args.v.now c.args.k c.loop-left.invariant (omega arith)

pub overflow_add-i : goal.overflow_add-i
overflow_add-i c = omega (arith, id_room c.loop-left.invariant c.loop-left-test.true, view_fits c.args.hex c.args.s.now c.args.base, c.requires.2)
