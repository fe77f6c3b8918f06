use Rattle.std.specs.Prelude.{false, refl}
use Rattle.queue.specs.bytes.ViewAs.{view_raw}
use Rattle.queue.proofs.RefusalLaws.{unsound}
use Rattle.queue.proofs.check.AreaLaws.{recs_stand}
use Rattle.queue.proofs.change.CallsCancelLaws.{cancel_13, cancel_2, cancel_3, cancel_5, cancel_rest, found_in}
use Rattle.std.proofs.Common.{arith}
use Rattle.queue.proofs.change.calls.cancel.Goals as goal

pub returns-in_err-a : goal.returns-in_err-a
returns-in_err-a c = rw (unsound _ c.from_residual.ensures.1 c.in_err-a.ensures) (cancel_3 _ _ _ _ c.in_err-a.ensures.is)

pub returns-then-next-a : goal.returns-then-next-a
returns-then-next-a c = cancel_2 _ _ _ _ c.in_ok-a.ensures c.if-next-a.true

pub returns-then-id-ne32 : goal.returns-then-id-ne32
returns-then-id-ne32 c = cancel_5 _ _ _ _ c.in_ok-a.ensures c.if-next-a.false c.if-id-ne32.true

pub id-k-requires : goal.id-k-requires
id-k-requires c = rw c.new.ensures (omega (arith, view_raw {hex = false} c.args.id.now 0 refl, c.if-id-ne32.false))

pub find_id-requires : goal.find_id-requires
find_id-requires c = recs_stand c.in_ok-a.ensures.read.store

pub returns-in_default : goal.returns-in_default
returns-in_default c = cancel_13 _ _ _ _ c.in_ok-a.ensures c.if-next-a.false c.if-id-ne32.false (rw c.new.ensures at c.id-k.ensures.is) c.in_default.ensures

pub cancel_found-requires : goal.cancel_found-requires
cancel_found-requires c = (found_in c.in_ok-a.ensures c.in-Some.ensures, c.if-next-a.false)

pub returns : goal.returns
returns c = cancel_rest _ _ _ _ c.in_ok-a.ensures c.if-next-a.false c.if-id-ne32.false (rw c.new.ensures at c.id-k.ensures.is) c.cancel_found.ensures
