use Rattle.std.specs.Prelude.{◌≡◌, ◌+◌}
use Rattle.queue.proofs.layout.TurnLaws.{Scan}
use Rattle.queue.specs.check.SuspectsAs.{crosses}
use Rattle.queue.specs.layout.FormsCodec.{rec_in_value}
use Rattle.queue.proofs.check.suspects.pass.Given as goal

abbrev pub invariant-loop-left : goal.invariant-loop-left
invariant-loop-left l = Scan (rec_in_value l.form) (crosses l.form.hex l.s l.v) l.s l.initial._left l.initial.i 0 l.i l._left l.k × (l.k + l._left ≡ l.initial._left)
