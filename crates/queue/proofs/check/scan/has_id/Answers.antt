use Rattle.queue.proofs.check.ScanLaws.{among_end, among_go, among_stop}
use Rattle.queue.proofs.layout.TurnLaws.{id_room, start}
use Rattle.queue.specs.layout.FrameCodec.{id_c}
use Rattle.std.proofs.Common.{sym, ◌∙◌, arith, eqb-true}
use Rattle.std.proofs.lemmas.Bool.{eqb-false}
use Rattle.queue.proofs.check.scan.has_id.Goals as goal

pub loop-left-init : goal.loop-left-init
loop-left-init c = start id_c _ _ _ _ _ c.requires.0 c.requires.1

pub returns-then-same_id : goal.returns-then-same_id
returns-then-same_id c = among_stop _ c.loop-left.invariant c.loop-left-test.true c.id.ensures.found (eqb-true _ 1 (sym c.same_id.ensures ∙ c.if-same_id.true))

pub loop-left-preserved : goal.loop-left-preserved
loop-left-preserved c = among_go _ c.loop-left.invariant c.loop-left-test.true c.id.ensures.found (eqb-false _ 1 (sym c.same_id.ensures ∙ c.if-same_id.false))

pub returns : goal.returns
returns c = among_end _ c.loop-left.invariant (omega arith)

pub id-requires : goal.id-requires
id-requires c = id_room c.loop-left.invariant c.loop-left-test.true
