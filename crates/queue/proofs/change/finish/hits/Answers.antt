use Rattle.queue.specs.Basics.{one_most, one_of}
use Rattle.std.specs.Prelude.{false}
use Rattle.std.proofs.Common.{arith, ◌∙◌}
use Rattle.queue.proofs.change.FinishLaws.{hits_end, hits_go, hits_next}
use Rattle.queue.proofs.layout.TurnLaws.{start, stands}
use Rattle.queue.specs.layout.FormsCodec.{form_c}
use Rattle.queue.specs.layout.FrameCodec.{rec_c}
use Rattle.queue.proofs.change.finish.hits.Goals as goal

pub loop-left-init : goal.loop-left-init
loop-left-init c = (start (form_c false rec_c) _ _ _ _ _ c.requires.0 c.requires.1, omega arith)

pub overflow_add-total : goal.overflow_add-total
overflow_add-total c = omega (arith, c.loop-left.invariant.1, c.from-total.ensures, one_most c.picks.result)

pub overflow_add-i : goal.overflow_add-i
overflow_add-i c = omega (arith, hits_next _ _ c.loop-left.invariant.0 c.loop-left-test.true c.record_at-x.ensures)

pub loop-left-preserved : goal.loop-left-preserved
loop-left-preserved c = (hits_go _ _ c.loop-left.invariant.0 c.loop-left-test.true c.record_at-x.ensures c.picks.ensures (c.from-total.ensures ∙ one_of c.picks.result), omega (arith, c.loop-left.invariant.1, c.from-total.ensures, one_most c.picks.result))

pub returns : goal.returns
returns c = (hits_end _ _ c.loop-left.invariant.0 (omega arith), omega (arith, c.loop-left.invariant.1))

pub record_at-x-requires : goal.record_at-x-requires
record_at-x-requires c = stands false c.loop-left.invariant.0 c.loop-left-test.true
