use Rattle.queue.proofs.read.LinksLaws.{stands_known}
use Rattle.std.specs.Prelude.{length, refl}
use Rattle.std.proofs.Common.{◌∙◌, arith, length-set}
use Rattle.queue.proofs.read.LinksLaws.{outs_go, outs_less, outs_noted, outs_small}
use Rattle.queue.proofs.read.links.note_outs.Goals as goal

pub loop-i-init : goal.loop-i-init
loop-i-init c = (c.requires.5, refl)

pub offset_bounds-at-i : goal.offset_bounds-at-i
offset_bounds-at-i c = omega (arith, c.loop-i-test.true)

pub bounds-at-i : goal.bounds-at-i
bounds-at-i c = omega (arith, c.loop-i-test.true)

pub record_at-x-requires : goal.record_at-x-requires
record_at-x-requires c = stands_known c.args.s.now c.args.at.now c.loop-i.i c.requires.0 c.loop-i-test.true

pub pack-requires : goal.pack-requires
pack-requires c = outs_small c.args.s.now c.args.at.now c.loop-i.i c.requires.0 c.loop-i-test.true c.record_at-x.ensures c.requires.1

pub offset_bounds-outs-i : goal.offset_bounds-outs-i
offset_bounds-outs-i c = omega (arith, c.loop-i-test.true, c.requires.2, c.loop-i.invariant.1)

pub bounds-outs-i : goal.bounds-outs-i
bounds-outs-i c = omega (arith, c.loop-i-test.true, c.requires.2, c.loop-i.invariant.1)

pub loop-i-preserved : goal.loop-i-preserved
loop-i-preserved c = (outs_go c.loop-i.invariant.0 (omega (arith, c.loop-i-test.true, c.requires.2, c.loop-i.invariant.1)) (outs_noted c.args.s.now c.args.at.now c.loop-i.i c.requires.0 c.loop-i-test.true c.record_at-x.ensures c.pack.ensures.0 c.pack.ensures.1), length-set c.loop-i.outs c.loop-i.i c.pack.result ∙ c.loop-i.invariant.1)

pub shape_of-outs : goal.shape_of-outs
shape_of-outs c = c.loop-i.invariant.1

pub returns : goal.returns
returns c = outs_less (length c.args.at.now) c.loop-i.i c.loop-i-test.false c.loop-i.invariant.0
