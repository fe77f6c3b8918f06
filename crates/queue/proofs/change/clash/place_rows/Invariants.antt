use Rattle.std.specs.Prelude.{◌≡◌, ◌+◌, false, [], length, take}
use Rattle.queue.proofs.change.ClashLaws.{rows_f}
use Rattle.queue.proofs.layout.TurnLaws.{Scan}
use Rattle.queue.specs.bytes.ViewAs.{view}
use Rattle.queue.specs.layout.FrameCodec.{id_c}
use Rattle.queue.specs.paper.Records.{Id}
use Rattle.queue.proofs.change.clash.place_rows.Given as goal

abbrev pub invariant-loop-left : goal.invariant-loop-left
invariant-loop-left l = ((z : Id) → Scan id_c (rows_f l.ids z) (view false l.ids 0) l.m 0 [] l.i l._left (take l.k l.v)) × (l.k + l._left ≡ l.m) × (length l.v ≡ length l.initial.v)
