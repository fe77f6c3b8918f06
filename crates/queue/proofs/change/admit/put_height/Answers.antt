use Rattle.queue.proofs.bytes.PutLaws.{kept}
use Rattle.queue.proofs.change.AdmitLaws.{opt_none, opt_put}
use Rattle.std.specs.Prelude.{refl}
use Rattle.std.proofs.Common.{arith}
use Rattle.queue.proofs.change.admit.put_height.Goals as goal

pub put_u8-a-requires : goal.put_u8-a-requires
put_u8-a-requires c = let h = rw c.in-Some.is at c.requires.0 in omega arith

pub put_be-requires : goal.put_be-requires
put_be-requires c = let h = rw c.in-Some.is at c.requires.0 in omega (arith, c.put_u8-a.ensures.next, kept c.put_u8-a.ensures)

pub returns-in-Some : goal.returns-in-Some
returns-in-Some c = rw c.in-Some.is (opt_put 1 4 c.in-Some.h.0 refl (rw c.in-Some.is at c.requires.1) c.put_u8-a.ensures c.put_be.ensures)

pub put_u8-requires : goal.put_u8-requires
put_u8-requires c = let h = rw c.in-None.is at c.requires.0 in omega arith

pub returns-in-None : goal.returns-in-None
returns-in-None c = rw c.in-None.is (opt_none 0 4 0 (λ e. omega arith) c.put_u8.ensures)
