use Rattle.queue.proofs.check.ScanLaws.{among_f}
use Rattle.queue.proofs.layout.TurnLaws.{Scan}
use Rattle.queue.specs.layout.FrameCodec.{id_c}
use Rattle.queue.proofs.check.scan.has_id.Given as goal

abbrev pub invariant-loop-left : goal.invariant-loop-left
invariant-loop-left l = Scan id_c (among_f l.id) l.v l.n l.at tt l.i l._left tt
