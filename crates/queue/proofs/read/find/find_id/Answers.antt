use Rattle.queue.proofs.check.SuspectsRowLaws.{same_row}
use Rattle.std.proofs.lemmas.Bool.{eqb-false}
use Rattle.std.proofs.Common.{eqb-true}
use Rattle.queue.proofs.layout.TurnLaws.{stands}
use Rattle.queue.proofs.layout.TurnLaws.{seen, start}
use Rattle.queue.proofs.read.ReadingLaws.{find_end, find_go, find_stop}
use Rattle.queue.specs.layout.FormsCodec.{form_c}
use Rattle.queue.specs.layout.FrameCodec.{rec_c}
use Rattle.std.specs.Prelude.{false}
use Rattle.std.proofs.Common.{sym, ◌∙◌, arith}
use Rattle.queue.proofs.read.find.find_id.Goals as goal

pub loop-left-init : goal.loop-left-init
loop-left-init c = start (form_c false rec_c) _ _ _ _ _ c.requires.0 c.requires.1

pub record_at-x-requires : goal.record_at-x-requires
record_at-x-requires c = stands false c.loop-left.invariant c.loop-left-test.true

pub returns-then-is_eq : goal.returns-then-is_eq
returns-then-is_eq c = find_stop _ c.loop-left.invariant c.loop-left-test.true c.record_at-x.ensures (eqb-true _ 1 (sym (same_row c.compare_ids.result c.is_eq.ensures c.compare_ids.ensures) ∙ c.if-is_eq.true))

pub after_in-i-requires : goal.after_in-i-requires
after_in-i-requires c = (seen false c.loop-left.invariant c.loop-left-test.true c.record_at-x.ensures).is.1.within

pub loop-left-preserved : goal.loop-left-preserved
loop-left-preserved c = find_go _ c.loop-left.invariant c.loop-left-test.true c.record_at-x.ensures c.after_in-i.ensures (eqb-false _ 1 (sym (same_row c.compare_ids.result c.is_eq.ensures c.compare_ids.ensures) ∙ c.if-is_eq.false))

pub returns : goal.returns
returns c = find_end _ c.loop-left.invariant (omega arith)
