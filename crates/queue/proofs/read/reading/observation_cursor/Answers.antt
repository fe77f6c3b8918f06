use Rattle.queue.proofs.RefusalLaws.{unsound}
use Rattle.queue.proofs.read.ReadingLaws.{cursor_100, cursor_3, cursor_4, cursor_in}
use Rattle.std.specs.Prelude.{refl}
use Rattle.std.proofs.Common.{arith}
use Rattle.queue.proofs.read.reading.observation_cursor.Goals as goal

pub returns-in_err-h : goal.returns-in_err-h
returns-in_err-h c = rw (unsound _ c.from_residual.ensures.1 c.in_err-h.ensures) (cursor_3 _ _ c.in_err-h.ensures.is)

pub overflow_sub-n : goal.overflow_sub-n
overflow_sub-n c = let w = cursor_in _ c.args.out.now c.in_ok-h.ensures in omega (arith, w.0)

pub returns-then-out-n : goal.returns-then-out-n
returns-then-out-n c = cursor_4 _ _ c.in_ok-h.ensures c.if-out-n.true

pub overflow_add-h : goal.overflow_add-h
overflow_add-h c = let w = cursor_in _ c.args.out.now c.in_ok-h.ensures in omega (arith, w.1)

pub copy_part-requires : goal.copy_part-requires
copy_part-requires c = let w = cursor_in _ c.args.out.now c.in_ok-h.ensures in record { read = omega (arith, w.0, w.1); written = omega (arith, c.if-out-n.false) }

pub returns : goal.returns
returns c = cursor_100 _ _ c.in_ok-h.ensures refl c.if-out-n.false c.copy_part.ensures
