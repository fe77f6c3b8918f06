use Rattle.queue.proofs.change.CallsCancelLaws.{held_102, held_15, held_4, held_asks, held_from, one_hit, full, not_full}
use Rattle.std.proofs.Common.{arith}
use Rattle.queue.proofs.change.calls.cancel_held.Goals as goal

pub returns-then-a-eq18446744073709551615 : goal.returns-then-a-eq18446744073709551615
returns-then-a-eq18446744073709551615 c = held_15 c.requires.0 (one_hit c.requires.0).0 (one_hit c.requires.0).1 _ _ (full c.requires.0 c.if-a-eq18446744073709551615.true)

pub overflow_add-x : goal.overflow_add-x
overflow_add-x c = omega (arith, (held_asks c.requires.0).1, c.well_formed.0)

pub returns-then-out-x : goal.returns-then-out-x
returns-then-out-x c = held_4 c.requires.0 (one_hit c.requires.0).0 (one_hit c.requires.0).1 (not_full c.requires.0 c.if-a-eq18446744073709551615.false) _ _ c.if-out-x.true

pub put_ended-requires : goal.put_ended-requires
put_ended-requires c = (held_from c.requires.0 (one_hit c.requires.0).0 (one_hit c.requires.0).1 (not_full c.requires.0 c.if-a-eq18446744073709551615.false), c.requires.1)

pub put_end-requires : goal.put_end-requires
put_end-requires c = let h = held_asks c.requires.0 in (h.0, h.1, c.if-out-x.false)

pub returns : goal.returns
returns c = held_102 c.requires.0 (one_hit c.requires.0).0 (one_hit c.requires.0).1 (not_full c.requires.0 c.if-a-eq18446744073709551615.false) _ _ c.if-out-x.false c.put_ended.ensures c.put_end.ensures
