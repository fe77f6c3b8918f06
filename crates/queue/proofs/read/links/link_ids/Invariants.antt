use Rattle.queue.proofs.read.LinksLaws.{Linking}
use Rattle.queue.specs.bytes.ViewAs.{view}
use Rattle.std.specs.Prelude.{false}
use Rattle.queue.proofs.read.links.link_ids.Given as goal

abbrev pub invariant-loop-left : goal.invariant-loop-left
invariant-loop-left l = Linking l.l.width l.l.row l.s (view false l.s l.base) l.c l.at l.slots l.t l.v l.initial.bits l.i l._left l.bits
