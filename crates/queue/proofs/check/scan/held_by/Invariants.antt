use Rattle.std.specs.Prelude.{◌+◌, ◌≤◌}
use Rattle.queue.proofs.check.FilterLaws.{held_f}
use Rattle.queue.proofs.layout.TurnLaws.{Scan}
use Rattle.queue.specs.layout.FormsCodec.{rec_in_value}
use Rattle.queue.proofs.check.scan.held_by.Given as goal

abbrev pub invariant-loop-left : goal.invariant-loop-left
invariant-loop-left l = Scan (rec_in_value l.form) (held_f l.id) l.s l.initial._left l.initial.i 0 l.i l._left l.total × (l.total + l._left ≤ l.initial._left)
