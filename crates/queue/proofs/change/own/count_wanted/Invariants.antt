use Rattle.std.specs.Prelude.{◌+◌, ◌*◌, ◌≤◌, false}
use Rattle.queue.proofs.change.OwnLaws.{wanted_from}
use Rattle.queue.proofs.layout.TurnLaws.{Scan}
use Rattle.queue.specs.layout.FormsCodec.{form_c}
use Rattle.queue.specs.layout.FrameCodec.{rec_c}
use Rattle.queue.proofs.change.own.count_wanted.Given as goal

abbrev pub invariant-loop-left : goal.invariant-loop-left
invariant-loop-left l = Scan (form_c false rec_c) wanted_from l.s l.initial._left l.initial.i 0 l.i l._left l.total × (l.total + l._left * 131070 ≤ l.initial._left * 131070)
