use Rattle.queue.proofs.RefusalLaws.{unsound}
use Rattle.queue.proofs.check.AreaLaws.{recs_stand}
use Rattle.queue.proofs.read.ReadingLaws.{look_3, look_5, look_found}
use Rattle.queue.specs.bytes.ViewAs.{view_raw}
use Rattle.std.specs.Prelude.{refl}
use Rattle.std.proofs.Common.{arith}
use Rattle.queue.proofs.read.reading.look.Goals as goal

pub returns-in_err-a : goal.returns-in_err-a
returns-in_err-a c = rw (unsound _ c.from_residual.ensures.1 c.in_err-a.ensures) (look_3 _ _ c.in_err-a.ensures.is)

pub returns-then-id-ne32 : goal.returns-then-id-ne32
returns-then-id-ne32 c = look_5 _ _ c.in_ok-a.ensures c.if-id-ne32.true

pub id-k-requires : goal.id-k-requires
id-k-requires c = rw c.new.ensures (let l = view_raw c.args.id.now 0 refl in omega (arith, c.if-id-ne32.false))

pub find_id-requires : goal.find_id-requires
find_id-requires c = recs_stand c.in_ok-a.ensures.read.store

pub returns : goal.returns
returns c = look_found _ _ c.in_ok-a.ensures c.if-id-ne32.false _ (rw c.new.ensures at c.id-k.ensures.is) c.find_id.result c.ok_or.ensures.value c.find_id.ensures
