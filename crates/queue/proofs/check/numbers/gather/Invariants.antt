use Rattle.std.specs.Prelude.{◌≡◌, ◌≤◌, [], length, take}
use Rattle.queue.proofs.check.NumbersLaws.{numbers_from}
use Rattle.queue.proofs.layout.TurnLaws.{Scan}
use Rattle.queue.specs.layout.FormsCodec.{rec_in_value}
use Rattle.queue.proofs.check.numbers.gather.Given as goal

abbrev pub invariant-loop-left : goal.invariant-loop-left
invariant-loop-left l = Scan (rec_in_value l.form) numbers_from l.s l.initial._left l.initial.i [] l.i l._left (take l.k l.v) × (l.k ≤ length l.v) × (length l.v ≡ length l.initial.v)
