use Rattle.std.specs.Prelude.{false, refl}
use Rattle.queue.specs.bytes.ViewAs.{view_raw}
use Rattle.queue.proofs.RefusalLaws.{unsound}
use Rattle.queue.proofs.change.CallsLaws.{cursor_2, cursor_3, cursor_5, cursor_5', cursor_none, cursor_some, move_none, move_some, told_none, told_some}
use Rattle.queue.proofs.read.ReadingLaws.{key}
use Rattle.std.proofs.Common.{arith}
use Rattle.queue.proofs.change.calls.set_cursor.Goals as goal

pub returns-in_err-a : goal.returns-in_err-a
returns-in_err-a c = rw (unsound _ c.from_residual.ensures.1 c.in_err-a.ensures) (cursor_3 _ _ _ _ _ c.in_err-a.ensures.is)

pub returns-then-next-a : goal.returns-then-next-a
returns-then-next-a c = let w = c.in_ok-a.ensures in cursor_2 w.is w.read _ _ _ _ c.if-next-a.true

pub put_moved-requires : goal.put_moved-requires
put_moved-requires c = (move_none c.in_ok-a.ensures _ (omega arith), c.if-next-a.false)

pub id-id-requires : goal.id-id-requires
id-id-requires c = rw c.new.ensures (omega (arith, view_raw {hex = false} c.args.tip.now 0 refl, c.if-tip-eq32.true))

pub put_moved-requires-in-1 : goal.put_moved-requires-in-1
put_moved-requires-in-1 c = (move_some c.in_ok-a.ensures _ (omega arith) _ c.if-tip-eq32.true (λ j h. let f = c.type_inv.tip j in omega arith) (rw c.new.ensures at c.id-id.ensures.is), c.if-next-a.false)

pub returns-in-0 : goal.returns-in-0
returns-in-0 c = let w = c.in_ok-a.ensures in cursor_none w.is w.read _ c.if-next-a.false _ _ _ c.in-0.is (told_none w.is w.read _ _ c.put_moved.ensures)

pub returns-in-1 : goal.returns-in-1
returns-in-1 c = let w = c.in_ok-a.ensures in cursor_some w.is w.read _ c.if-next-a.false _ _ _ c.in-1.is c.if-tip-eq32.true (told_some w.is w.read _ _ _ (key c.if-tip-eq32.true (rw c.new.ensures at c.id-id.ensures.is)) c.put_moved-in-1.ensures)

pub returns-in_default : goal.returns-in_default
returns-in_default c = let w = c.in_ok-a.ensures in cursor_5' w.is w.read _ c.if-next-a.false _ _ _ c.in-1.is c.if-tip-eq32.false

pub returns-in_default-2 : goal.returns-in_default-2
returns-in_default-2 c = let w = c.in_ok-a.ensures in cursor_5 w.is w.read _ c.if-next-a.false _ _ _ (λ e. omega arith) (λ e. omega arith)
