use Rattle.std.proofs.Common.{ap}
use Rattle.queue.specs.bytes.OrderAs.{order_number}
use Rattle.queue.proofs.layout.TurnLaws.{stands}
use Rattle.queue.proofs.layout.TurnLaws.{seen, start}
use Rattle.queue.proofs.read.FindLaws.{spot_before, spot_go, spot_last, spot_same}
use Rattle.queue.specs.layout.FormsCodec.{form_c}
use Rattle.queue.specs.layout.FrameCodec.{rec_c}
use Rattle.std.specs.Prelude.{false}
use Rattle.std.proofs.Common.{sym, ◌∙◌, arith}
use Rattle.queue.proofs.read.find.find_spot.Goals as goal

pub loop-left-init : goal.loop-left-init
loop-left-init c = start (form_c false rec_c) _ _ _ _ _ c.requires.0 c.requires.1

pub record_at-x-requires : goal.record_at-x-requires
record_at-x-requires c = stands false c.loop-left.invariant c.loop-left-test.true

pub after_in-next-requires : goal.after_in-next-requires
after_in-next-requires c = (seen false c.loop-left.invariant c.loop-left-test.true c.record_at-x.ensures).is.1.within

pub returns-in-Less : goal.returns-in-Less
returns-in-Less c = spot_before _ c.loop-left.invariant c.loop-left-test.true c.record_at-x.ensures (sym c.compare_ids.ensures ∙ ap order_number c.in-Less.is)

pub returns-in-Equal : goal.returns-in-Equal
returns-in-Equal c = spot_same _ c.loop-left.invariant c.loop-left-test.true c.record_at-x.ensures c.after_in-next.ensures (sym c.compare_ids.ensures ∙ ap order_number c.in-Equal.is)

pub loop-left-preserved : goal.loop-left-preserved
loop-left-preserved c = spot_go _ c.loop-left.invariant c.loop-left-test.true c.record_at-x.ensures c.after_in-next.ensures (λ e. let k = sym c.compare_ids.ensures ∙ ap order_number c.in-Greater.is in omega arith) (λ e. let k = sym c.compare_ids.ensures ∙ ap order_number c.in-Greater.is in omega arith)

pub returns : goal.returns
returns c = spot_last _ c.loop-left.invariant (omega arith)
