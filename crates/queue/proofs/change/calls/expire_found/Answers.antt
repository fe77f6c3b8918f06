use Rattle.queue.proofs.change.CallsExpireLaws.{due_102, due_15, due_4, due_from, due_ids, due_none, hits_asks, some_due}
use Rattle.std.proofs.Common.{arith}
use Rattle.queue.proofs.change.calls.expire_found.Goals as goal

pub hits-m-requires : goal.hits-m-requires
hits-m-requires c = hits_asks c.requires.0

pub overflow_sub-a : goal.overflow_sub-a
overflow_sub-a c = omega (arith, c.requires.0.read.store.head.counter_small)

pub returns-then-a-m : goal.returns-then-a-m
returns-then-a-m c = due_15 c.requires.0 c.args.time c.args.height _ c.hits-m.ensures.0 c.hits-m.ensures.1 _ _ c.if-a-m.true

pub overflow_mul-m : goal.overflow_mul-m
overflow_mul-m c = omega (arith, c.hits-m.ensures.1, c.requires.0.read.store.head.count_small)

pub overflow_add-m : goal.overflow_add-m
overflow_add-m c = omega (arith, c.hits-m.ensures.1, c.requires.0.read.store.head.count_small)

pub returns-then-out-m : goal.returns-then-out-m
returns-then-out-m c = due_4 c.requires.0 c.args.time c.args.height _ c.hits-m.ensures.0 c.hits-m.ensures.1 c.if-a-m.false _ _ c.if-out-m.true

pub put_be-requires : goal.put_be-requires
put_be-requires c = omega (arith, c.if-out-m.false)

pub returns-then-m-eq0 : goal.returns-then-m-eq0
returns-then-m-eq0 c = due_none c.requires.0 c.args.time c.args.height _ c.hits-m.ensures.0 c.hits-m.ensures.1 c.if-a-m.false _ _ c.if-m-eq0.true (omega (arith, c.if-out-m.false)) c.put_be.ensures

pub put_ended-requires : goal.put_ended-requires
put_ended-requires c = (due_from c.requires.0 c.args.time c.args.height _ c.hits-m.ensures.0 c.hits-m.ensures.1 c.if-a-m.false (some_due _ c.if-m-eq0.false), c.requires.1)

pub put_be-e-requires : goal.put_be-e-requires
put_be-e-requires c = omega (arith, c.if-out-m.false)

pub put_picked-requires : goal.put_picked-requires
put_picked-requires c = (hits_asks c.requires.0, due_ids c.requires.0 c.args.time c.args.height _ c.hits-m.ensures.0 c.hits-m.ensures.1 c.if-a-m.false c.args.out.now c.if-out-m.false c.put_be-e.ensures)

pub returns : goal.returns
returns c = due_102 c.requires.0 c.args.time c.args.height _ c.hits-m.ensures.0 c.hits-m.ensures.1 c.if-a-m.false _ _ c.if-m-eq0.false (some_due _ c.if-m-eq0.false) c.if-out-m.false c.put_ended.ensures c.put_be-e.ensures c.put_picked.ensures
