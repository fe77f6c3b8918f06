use Rattle.queue.specs.bytes.ViewAs.{view_raw}
use Rattle.queue.proofs.change.IdLaws.{is_lower, not_lower}
use Rattle.std.specs.Prelude.{refl, false}
use Rattle.queue.proofs.change.LentLaws.{rise_end, rise_go, rise_start, rise_stop}
use Rattle.std.proofs.Common.{arith}
use Rattle.queue.proofs.change.lent.entries_rise.Goals as goal

pub loop-left-init : goal.loop-left-init
loop-left-init c = rise_start _ _ c.requires

pub overflow_add-i : goal.overflow_add-i
overflow_add-i c = omega (arith, c.loop-left.invariant.within, c.well_formed.0)

pub compare_at-requires-clause-first : goal.compare_at-requires-clause-first
compare_at-requires-clause-first c = rw c.new-v.ensures (omega (arith, view_raw {hex = false} c.args.t.now 0 refl, c.loop-left.invariant.within, c.loop-left-test.true))

pub compare_at-requires-clause-second : goal.compare_at-requires-clause-second
compare_at-requires-clause-second c = rw c.new-v.ensures (omega (arith, view_raw {hex = false} c.args.t.now 0 refl, c.loop-left.invariant.within, c.loop-left-test.true))

pub returns-then-not-is_lt : goal.returns-then-not-is_lt
returns-then-not-is_lt c = rise_stop c.loop-left.invariant c.loop-left-test.true (not_lower c.compare_at.result c.is_lt.ensures (rw c.new-v.ensures at c.compare_at.ensures) c.if-not-is_lt.true)

pub overflow_add-i-in-loop-left : goal.overflow_add-i-in-loop-left
overflow_add-i-in-loop-left c = omega (arith, c.loop-left.invariant.within, c.well_formed.0)

pub loop-left-preserved : goal.loop-left-preserved
loop-left-preserved c = rise_go c.loop-left.invariant c.loop-left-test.true (is_lower c.compare_at.result c.is_lt.ensures (rw c.new-v.ensures at c.compare_at.ensures) c.if-not-is_lt.false)

pub returns : goal.returns
returns c = rise_end c.loop-left.invariant (omega arith)
