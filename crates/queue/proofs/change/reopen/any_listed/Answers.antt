use Rattle.queue.proofs.change.ReopenLaws.{any_end, any_go, any_next, any_stop}
use Rattle.queue.proofs.layout.TurnLaws.{start, stands}
use Rattle.queue.specs.layout.FormsCodec.{form_c}
use Rattle.queue.specs.layout.FrameCodec.{rec_c}
use Rattle.std.specs.Prelude.{false}
use Rattle.std.proofs.Common.{arith}
use Rattle.queue.proofs.change.reopen.any_listed.Goals as goal

pub loop-left-init : goal.loop-left-init
loop-left-init c = start (form_c false rec_c) _ _ _ _ _ c.requires.0.0 c.requires.0.1

pub listed-requires : goal.listed-requires
listed-requires c = c.requires.1

pub returns-then-listed : goal.returns-then-listed
returns-then-listed c = any_stop _ c.loop-left.invariant c.loop-left-test.true c.record_at-x.ensures c.listed.ensures c.if-listed.true

pub overflow_add-i : goal.overflow_add-i
overflow_add-i c = omega (arith, any_next _ c.loop-left.invariant c.loop-left-test.true c.record_at-x.ensures)

pub loop-left-preserved : goal.loop-left-preserved
loop-left-preserved c = any_go _ c.loop-left.invariant c.loop-left-test.true c.record_at-x.ensures c.listed.ensures c.if-listed.false

pub returns : goal.returns
returns c = any_end _ c.loop-left.invariant (omega arith)

pub record_at-x-requires : goal.record_at-x-requires
record_at-x-requires c = stands false c.loop-left.invariant c.loop-left-test.true
