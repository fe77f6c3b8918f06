use Rattle.queue.proofs.RefusalLaws.{unsound}
use Rattle.queue.proofs.change.CallsExpireLaws.{expire_2, expire_3, expire_rest}
use Rattle.queue.proofs.change.calls.expire.Goals as goal

pub returns-in_err-a : goal.returns-in_err-a
returns-in_err-a c = rw (unsound _ c.from_residual.ensures.1 c.in_err-a.ensures) (expire_3 _ _ _ _ _ c.in_err-a.ensures.is)

pub returns-then-next-a : goal.returns-then-next-a
returns-then-next-a c = expire_2 _ _ _ _ _ c.in_ok-a.ensures c.if-next-a.true

pub returns : goal.returns
returns c = expire_rest _ _ _ _ _ c.in_ok-a.ensures c.if-next-a.false c.expire_found.ensures
