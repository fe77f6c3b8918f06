use Rattle.queue.proofs.change.ReopenLaws.{chain_i?}
use Rattle.queue.proofs.layout.TurnLaws.{Scan}
use Rattle.queue.specs.bytes.ViewAs.{view}
use Rattle.queue.specs.layout.FrameCodec.{id_c}
use Rattle.std.specs.Prelude.{false}
use Rattle.queue.proofs.change.lent.rise.Given as goal

abbrev pub invariant-loop-left : goal.invariant-loop-left
invariant-loop-left l = Scan id_c chain_i? (view false l.ids 0) l.initial._left l.initial.i l.initial.prev l.i l._left l.prev
