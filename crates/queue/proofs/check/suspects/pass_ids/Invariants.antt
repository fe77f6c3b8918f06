use Rattle.queue.proofs.check.SuspectsLaws.{meets_f}
use Rattle.queue.proofs.layout.TurnLaws.{Scan}
use Rattle.queue.specs.bytes.ViewAs.{view}
use Rattle.queue.specs.layout.FrameCodec.{id_c}
use Rattle.queue.proofs.check.suspects.pass_ids.Given as goal

abbrev pub invariant-loop-left : goal.invariant-loop-left
invariant-loop-left l = Scan id_c (meets_f l.hex l.s l.v l.k) (view l.hex l.s l.base) l.m l.ids tt l.i l._left tt
