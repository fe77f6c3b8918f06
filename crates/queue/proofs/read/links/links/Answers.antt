use Rattle.std.specs.Prelude.{length, refl}
use Rattle.std.proofs.Common.{sym, ◌∙◌, arith, length-take-le}
use Rattle.queue.proofs.read.LinksLaws.{blocks_end, blocks_go, blocks_start, outs_less, outs_start, zero_now}
use Rattle.queue.proofs.read.links.links.Goals as goal

pub loop-a-init : goal.loop-a-init
loop-a-init c = (blocks_start c.args.w c.args.s.now c.args.at.now c.args.bits.now, omega arith, refl, refl, refl, λ _. c.requires.6, outs_start c.args.s.now c.args.at.now c.args.outs.now, refl)

pub keep_rows-b-requires : goal.keep_rows-b-requires
keep_rows-b-requires c = (c.requires.0, c.requires.1, c.requires.2, c.loop-a-test.true, c.requires.3, omega (arith, c.requires.4, c.loop-a.invariant.2), zero_now c.loop-a.a c.clear.ensures.is c.loop-a.invariant.5, omega (arith, c.requires.8, c.loop-a.invariant.7), c.loop-a.invariant.6)

pub note_outs-requires : goal.note_outs-requires
note_outs-requires c = (c.requires.0, c.requires.2, omega (arith, c.requires.8, c.loop-a.invariant.7), c.requires.3, c.keep_rows-b.ensures.2, c.keep_rows-b.ensures.4)

pub slice_bounds-link_block-end : goal.slice_bounds-link_block-end
slice_bounds-link_block-end c = omega (arith, c.keep_rows-b.ensures.3)

pub slice_bounds-link_block-end-in-loop-a : goal.slice_bounds-link_block-end-in-loop-a
slice_bounds-link_block-end-in-loop-a c = sym (length-take-le c.keep_rows-b.result.len _ (omega (arith, c.keep_rows-b.ensures.3)))

pub link_block-requires : goal.link_block-requires
link_block-requires c = (c.note_outs.ensures, omega (arith, c.requires.8, c.loop-a.invariant.7), c.requires.2, omega (arith, c.requires.5, c.loop-a.invariant.0.size), c.requires.3)

pub loop-a-smaller : goal.loop-a-smaller
loop-a-smaller c = omega (arith, c.keep_rows-b.ensures.1, c.keep_rows-b.ensures.2)

pub loop-a-preserved : goal.loop-a-preserved
loop-a-preserved c = (blocks_go c.loop-a.a c.keep_rows-b.result.next c.args.s.now c.args.at.now (omega (arith, c.keep_rows-b.ensures.1)) c.loop-a.invariant.0 c.keep_rows-b.ensures.0 c.link_block.ensures, c.keep_rows-b.ensures.2, omega (arith, c.loop-a.invariant.2, c.v-1.given, c.v-in-loop-a-1.given), c.keep_rows-b.ensures.5 ∙ c.clear.ensures.size ∙ c.loop-a.invariant.3, c.keep_rows-b.ensures.6 ∙ c.clear-in-loop-a.ensures.size ∙ c.loop-a.invariant.4, λ e. absurd (let z : ⊥ = omega (arith, c.keep_rows-b.ensures.1) in z), outs_less c.keep_rows-b.result.next (length c.args.at.now) c.keep_rows-b.ensures.2 c.note_outs.ensures, omega (arith, c.loop-a.invariant.7, c.outs-1.given, c.outs-in-loop-a-1.given))

pub shape_of-outs : goal.shape_of-outs
shape_of-outs c = c.loop-a.invariant.7

pub shape_of-v : goal.shape_of-v
shape_of-v c = c.loop-a.invariant.2

pub shape_of-bits : goal.shape_of-bits
shape_of-bits c = c.loop-a.invariant.0.size

pub returns-clause-sizes : goal.returns-clause-sizes
returns-clause-sizes c = (c.loop-a.invariant.3, c.loop-a.invariant.4)

pub returns-clause-is : goal.returns-clause-is
returns-clause-is c = record { from = c.args.bits.now; zero = c.requires.7; fits = c.requires.5; joined = blocks_end c.loop-a.a c.args.s.now c.args.at.now (omega (arith, c.loop-a.invariant.1, c.loop-a-test.false)) c.loop-a.invariant.0 }
