use Rattle.std.specs.Prelude.{eqb, refl}
use Rattle.std.proofs.Common.{sym, ◌∙◌}
use Rattle.queue.proofs.check.ScanLaws.{or_zero, zero_over, zero_turn}
use Rattle.queue.proofs.check.scan.zeros_part.Goals as goal

pub loop-i-init : goal.loop-i-init
loop-i-init c = refl

pub loop-i-preserved : goal.loop-i-preserved
loop-i-preserved c = rw (or_zero c.loop-i.bits _) (sym (zero_turn _ c.loop-i.i _ (eqb c.loop-i.bits 0) c.loop-i-test.true c.requires.1) ∙ c.loop-i.invariant)

pub returns : goal.returns
returns c = sym (zero_over _ c.loop-i.i _ (eqb c.loop-i.bits 0) c.loop-i-test.false) ∙ c.loop-i.invariant
