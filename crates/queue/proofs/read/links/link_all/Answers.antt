use Rattle.std.specs.Prelude.{length, refl}
use Rattle.std.proofs.Common.{sym, zero-mul, arith}
use Rattle.queue.proofs.read.LinksBitLaws.{line_in, line_next}
use Rattle.queue.proofs.read.LinksLaws.{lines_end, lines_go, lines_start}
use Rattle.queue.proofs.read.links.link_all.Goals as goal

pub loop-i-init : goal.loop-i-init
loop-i-init c = (lines_start c.args.w c.args.s.now c.args.at.now _ _ _ _, sym (zero-mul c.args.w), refl)

pub offset_bounds-at-i : goal.offset_bounds-at-i
offset_bounds-at-i c = omega (arith, c.loop-i-test.true)

pub bounds-at-i : goal.bounds-at-i
bounds-at-i c = omega (arith, c.loop-i-test.true)

pub offset_bounds-outs-i : goal.offset_bounds-outs-i
offset_bounds-outs-i c = omega (arith, c.loop-i-test.true, c.requires.1)

pub bounds-outs-i : goal.bounds-outs-i
bounds-outs-i c = omega (arith, c.loop-i-test.true, c.requires.1)

pub link_ids-requires : goal.link_ids-requires
link_ids-requires c = let u = c.requires.0.each c.loop-i.i c.loop-i-test.true in let z = line_in (length c.args.at.now) c.args.w c.loop-i.i c.loop-i-test.true in (u.within, u.all, c.requires.2, c.requires.3, c.loop-i.invariant.1, omega (arith, z, c.requires.4, c.loop-i.invariant.1, c.loop-i.invariant.2))

pub overflow_add-o : goal.overflow_add-o
overflow_add-o c = let z = line_in (length c.args.at.now) c.args.w c.loop-i.i c.loop-i-test.true in let g = c.well_formed in omega (arith, z, c.requires.4, c.loop-i.invariant.1, c.loop-i.invariant.2)

pub loop-i-preserved : goal.loop-i-preserved
loop-i-preserved c = (lines_go c.loop-i.i c.args.s.now c.args.at.now (c.requires.0.each c.loop-i.i c.loop-i-test.true).list c.loop-i.invariant.0 c.link_ids.ensures, line_next c.loop-i.i c.args.w c.loop-i.invariant.1, omega (arith, c.loop-i.invariant.2))

pub shape_of-bits : goal.shape_of-bits
shape_of-bits c = c.loop-i.invariant.2

pub returns : goal.returns
returns c = lines_end c.loop-i.i c.args.at.now (omega (arith, c.loop-i-test.false)) c.loop-i.invariant.0
