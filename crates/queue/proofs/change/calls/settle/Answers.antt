use Rattle.queue.proofs.RefusalLaws.{unsound}
use Rattle.queue.proofs.change.CallsLaws.{be_four, four_in, is_failed, not_failed, settle_100, settle_17, settle_17', settle_2, settle_3, settle_3', settle_5}
use Rattle.std.specs.Prelude.{refl}
use Rattle.std.proofs.Common.{arith}
use Rattle.queue.proofs.change.calls.settle.Goals as goal

pub returns-in_err-a : goal.returns-in_err-a
returns-in_err-a c = rw (unsound _ c.from_residual.ensures.1 c.in_err-a.ensures) (settle_3 _ _ _ _ c.in_err-a.ensures.is)

pub returns-then-next-a : goal.returns-then-next-a
returns-then-next-a c = let w = c.in_ok-a.ensures in settle_2 _ w.is _ _ _ refl (is_failed c.if-kind-eq2.true c.if-outcome-eq1.true) (omega (arith, w.read.need, c.if-next-a.true))

pub copy_part-requires : goal.copy_part-requires
copy_part-requires c = record { read = omega (arith, c.in_ok-a.ensures.read.long); written = omega (arith, c.if-next-a.false) }

pub returns-then-outcome-eq1 : goal.returns-then-outcome-eq1
returns-then-outcome-eq1 c = let w = c.in_ok-a.ensures in settle_17 _ w.is _ _ _ refl (is_failed c.if-kind-eq2.true c.if-outcome-eq1.true) w.read.need c.if-next-a.false c.copy_part.ensures

pub returns-in_err-read : goal.returns-in_err-read
returns-in_err-read c = let w = c.in_ok-a.ensures in rw (unsound _ c.from_residual-in_err-read.ensures.1 c.in_err-read.ensures) (settle_3' _ w.is _ _ _ refl (not_failed c.else-kind-eq2.either) c.in_err-read.ensures.is)

pub returns-then-not-settle_shape : goal.returns-then-not-settle_shape
returns-then-not-settle_shape c = let w = c.in_ok-a.ensures in let x = c.in_ok-read.ensures in settle_5 _ w.is _ _ _ refl (not_failed c.else-kind-eq2.either) x.is c.settle_shape.ensures c.if-not-settle_shape.true

pub returns-then-outcome-eq0 : goal.returns-then-outcome-eq0
returns-then-outcome-eq0 c = let w = c.in_ok-a.ensures in let x = c.in_ok-read.ensures in settle_100 _ w.is _ _ _ refl (not_failed c.else-kind-eq2.either) x.is c.settle_shape.ensures c.if-not-settle_shape.false c.if-outcome-eq0.true

pub put_be-requires : goal.put_be-requires
put_be-requires c = four_in c.in_ok-read.ensures.read

pub returns : goal.returns
returns c = let w = c.in_ok-a.ensures in let x = c.in_ok-read.ensures in settle_17' _ w.is _ _ _ refl (not_failed c.else-kind-eq2.either) x.is c.settle_shape.ensures c.if-not-settle_shape.false c.if-outcome-eq0.false (be_four w.read c.put_be.ensures)
