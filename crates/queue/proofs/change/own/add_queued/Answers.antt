use Rattle.std.specs.Prelude.{false, refl}
use Rattle.std.proofs.Common.{arith}
use Rattle.queue.proofs.change.OwnLaws.{queue_end, queue_go, queuing}
use Rattle.queue.proofs.layout.TurnLaws.{seen, stands}
use Rattle.queue.proofs.change.own.add_queued.Goals as goal

pub loop-left-init : goal.loop-left-init
loop-left-init c = (queuing _ _ _ _ _ _ c.requires.0.0 c.requires.0.1, omega arith, refl, refl)

pub add_outputs-k-requires : goal.add_outputs-k-requires
add_outputs-k-requires c = let t = seen false c.loop-left.invariant.0.scan c.loop-left-test.true c.record_at-x.ensures in (c.requires.0, c.requires.1, (omega (arith, c.requires.2.0, c.loop-left.invariant.3), c.requires.2.1), c.loop-left.invariant.1, omega (arith, c.requires.3, c.loop-left.invariant.2), c.requires.4, t.is.0.outs_in, t.is.0.outs_all)

pub after_in-i-requires : goal.after_in-i-requires
after_in-i-requires c = (seen false c.loop-left.invariant.0.scan c.loop-left-test.true c.record_at-x.ensures).is.1.within

pub loop-left-preserved : goal.loop-left-preserved
loop-left-preserved c = (queue_go _ _ _ c.loop-left.invariant.0 c.loop-left-test.true c.record_at-x.ensures c.after_in-i.ensures c.add_outputs-k.ensures.0, omega (arith, c.add_outputs-k.ensures.1), omega (arith, c.loop-left.invariant.2), omega (arith, c.loop-left.invariant.3))

pub returns : goal.returns
returns c = (queue_end _ _ _ c.loop-left.invariant.0 (omega arith), omega (arith, c.loop-left.invariant.1, c.loop-left.invariant.2))

pub record_at-x-requires : goal.record_at-x-requires
record_at-x-requires c = stands false c.loop-left.invariant.0.scan c.loop-left-test.true
