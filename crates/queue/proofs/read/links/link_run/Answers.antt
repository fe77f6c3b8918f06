use Rattle.std.specs.Prelude.{refl}
use Rattle.std.proofs.Common.{◌∙◌, arith}
use Rattle.queue.proofs.read.LinksLaws.{run_end, run_go, run_start, run_stop}
use Rattle.queue.proofs.read.links.link_run.Goals as goal

pub loop-k-init : goal.loop-k-init
loop-k-init c = (run_start c.args.s.now c.args.v.now c.args.y c.requires.1 c.args.l.width c.args.l.row c.args.bits.now c.requires.0, refl)

pub offset_bounds-v-k : goal.offset_bounds-v-k
offset_bounds-v-k c = omega (arith, c.loop-k-test.true)

pub bounds-v-k : goal.bounds-v-k
bounds-v-k c = omega (arith, c.loop-k-test.true)

pub shape_of-bits-then-ordered-found : goal.shape_of-bits-then-ordered-found
shape_of-bits-then-ordered-found c = c.loop-k.invariant.1

pub returns-then-ordered-found : goal.returns-then-ordered-found
returns-then-ordered-found c = run_stop c.args.s.now c.args.v.now c.args.y c.requires.1 c.requires.0 c.loop-k.invariant.0 (omega arith) c.loop-k-test.true c.is_row_of-found.ensures refl c.if-ordered-found.true

pub link_row-requires : goal.link_row-requires
link_row-requires c = (c.requires.2, omega (arith, c.requires.3, c.loop-k.invariant.1))

pub loop-k-preserved : goal.loop-k-preserved
loop-k-preserved c = (run_go c.args.s.now c.args.v.now c.args.y c.requires.1 c.requires.0 c.loop-k.invariant.0 (omega arith) c.loop-k-test.true c.is_row_of-found.ensures c.link_row.ensures, c.link_row.ensures.size ∙ c.loop-k.invariant.1)

pub shape_of-bits : goal.shape_of-bits
shape_of-bits c = c.loop-k.invariant.1

pub returns : goal.returns
returns c = run_end c.args.s.now c.args.v.now c.args.y c.requires.1 c.requires.0 c.loop-k.invariant.0 (omega arith) c.loop-k-test.false
