use Rattle.queue.proofs.change.IdLaws.{is_lower, not_lower}
use Rattle.queue.proofs.change.ReopenLaws.{ids_end, ids_first, ids_go, ids_none, ids_room, ids_stop}
use Rattle.queue.proofs.layout.TurnLaws.{id_room}
use Rattle.std.proofs.Common.{◌∙◌, arith}
use Rattle.queue.proofs.change.lent.rise.Goals as goal

pub returns-then-n-eq0 : goal.returns-then-n-eq0
returns-then-n-eq0 c = ids_none _ _ c.if-n-eq0.true

pub id-prev-requires : goal.id-prev-requires
id-prev-requires c = rw c.new-v.ensures (ids_room c.args.ids.now c.args.n c.requires (omega arith))

pub loop-left-init : goal.loop-left-init
loop-left-init c = (ids_first _ c.requires (omega arith) (rw c.new-v.ensures at c.id-prev.ensures.found)).0

pub id-id-requires : goal.id-id-requires
id-id-requires c = rw c.new-v.ensures (id_room c.loop-left.invariant c.loop-left-test.true)

pub returns-then-not-is_lt : goal.returns-then-not-is_lt
returns-then-not-is_lt c = ids_stop c.loop-left.invariant c.loop-left-test.true (rw c.new-v.ensures at c.id-id.ensures.found) (not_lower c.compare_ids.result c.is_lt.ensures c.compare_ids.ensures c.if-not-is_lt.true) ∙ (ids_first _ c.requires (omega arith) (rw c.new-v.ensures at c.id-prev.ensures.found)).1

pub loop-left-preserved : goal.loop-left-preserved
loop-left-preserved c = ids_go c.loop-left.invariant c.loop-left-test.true (rw c.new-v.ensures at c.id-id.ensures.found) (is_lower c.compare_ids.result c.is_lt.ensures c.compare_ids.ensures c.if-not-is_lt.false)

pub returns : goal.returns
returns c = ids_end c.loop-left.invariant (omega arith) ∙ (ids_first _ c.requires (omega arith) (rw c.new-v.ensures at c.id-prev.ensures.found)).1
