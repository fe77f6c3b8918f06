use Rattle.std.specs.Prelude.{[], refl, false}
use Rattle.std.proofs.Common.{arith, length-set}
use Rattle.queue.proofs.change.ClashLaws.{rows_end, rows_go, rows_take, rows_f}
use Rattle.queue.proofs.change.IdLaws.{id_stands}
use Rattle.queue.proofs.layout.TurnLaws.{id_room, start}
use Rattle.queue.specs.bytes.ViewAs.{view_raw}
use Rattle.queue.specs.layout.FrameCodec.{id_c}
use Rattle.queue.proofs.change.clash.place_rows.Goals as goal

pub loop-left-init : goal.loop-left-init
loop-left-init c = (λ z. start id_c (rows_f c.args.ids.now z) _ _ _ _ (omega arith) c.requires.0, omega arith, refl)

pub row_at-requires : goal.row_at-requires
row_at-requires c = (id_room (c.loop-left.invariant.0 []) c.loop-left-test.true, c.requires.2, omega arith)

pub overflow_add-i : goal.overflow_add-i
overflow_add-i c = omega (arith, id_room (c.loop-left.invariant.0 []) c.loop-left-test.true, view_raw {hex = false} c.args.ids.now 0 refl, c.requires.2)

pub bounds-v-k : goal.bounds-v-k
bounds-v-k c = omega (arith, c.requires.1, c.loop-left.invariant.1, c.loop-left.invariant.2, c.loop-left-test.true)

pub loop-left-preserved : goal.loop-left-preserved
loop-left-preserved c = (rows_go c.args.ids.now c.loop-left.invariant.0 c.row_at.result c.loop-left-test.true (id_stands c.args.ids.now 0 (λ j. let f = c.type_inv.ids j in omega arith) (id_room (c.loop-left.invariant.0 []) c.loop-left-test.true)) c.row_at.ensures.0 (rows_take c.loop-left.v c.loop-left.k _ (omega (arith, c.requires.1, c.loop-left.invariant.1, c.loop-left.invariant.2, c.loop-left-test.true))), omega (arith, c.loop-left.invariant.1, c.loop-left-test.true), omega (arith, c.loop-left.invariant.2, length-set c.loop-left.v c.loop-left.k c.row_at.result))

pub returns : goal.returns
returns c = (rows_end c.args.ids.now c.loop-left.invariant.0 (omega arith), omega (arith, c.requires.1, c.loop-left.invariant.1), c.loop-left.invariant.2)
