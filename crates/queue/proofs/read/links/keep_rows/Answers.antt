use Rattle.queue.proofs.read.LinksLaws.{stands_known}
use Rattle.std.specs.Prelude.{◌≡◌, length, refl}
use Rattle.std.proofs.Common.{◌∙◌, le_refl, arith, length-set}
use Rattle.queue.proofs.read.LinksLaws.{grew, ins_here, outs_go, outs_noted, outs_small, reads_here, records_go, records_start, rowed_both, wants_are, wants_few}
use Rattle.queue.proofs.read.links.keep_rows.Goals as goal

pub loop-b-init : goal.loop-b-init
loop-b-init c = (records_start c.args.s.now c.args.at.now c.args.a c.requires.6 refl, omega arith, refl, refl, refl, λ _. refl, c.requires.8, refl)

pub overflow_sub-v : goal.overflow_sub-v
overflow_sub-v c = omega (arith, c.loop-b.invariant.1, c.loop-b.invariant.2)

pub shape_of-outs-then-v-k-lt256 : goal.shape_of-outs-then-v-k-lt256
shape_of-outs-then-v-k-lt256 c = c.loop-b.invariant.7

pub shape_of-v-then-v-k-lt256 : goal.shape_of-v-then-v-k-lt256
shape_of-v-then-v-k-lt256 c = c.loop-b.invariant.2

pub returns-then-v-k-lt256 : goal.returns-then-v-k-lt256
returns-then-v-k-lt256 c = (c.loop-b.invariant.0, grew c.loop-b.k (length c.loop-b.v) (omega arith) c.loop-b.invariant.5 (omega (arith, c.requires.5, c.loop-b.invariant.2)) c.if-v-k-lt256.true, omega arith, c.loop-b.invariant.1, c.loop-b.invariant.6, c.loop-b.invariant.3, c.loop-b.invariant.4)

pub offset_bounds-at-b : goal.offset_bounds-at-b
offset_bounds-at-b c = omega (arith, c.loop-b-test.true)

pub bounds-at-b : goal.bounds-at-b
bounds-at-b c = omega (arith, c.loop-b-test.true)

pub record_at-x-requires : goal.record_at-x-requires
record_at-x-requires c = stands_known c.args.s.now c.args.at.now c.loop-b.b c.requires.0 c.loop-b-test.true

pub keep_ids-k-requires : goal.keep_ids-k-requires
keep_ids-k-requires c = let u = ins_here c.args.s.now c.args.at.now c.loop-b.b c.requires.0 c.loop-b-test.true c.record_at-x.ensures in (u.0, u.1, c.requires.2, omega (arith, c.requires.4, c.loop-b-test.true), omega (arith, (wants_few c.args.s.now c.args.at.now c.loop-b.b c.requires.0 c.loop-b-test.true c.record_at-x.ensures c.requires.1).0, c.if-v-k-lt256.false, c.loop-b.invariant.1, c.loop-b.invariant.2))

pub keep_ids-k-requires-in-loop-b : goal.keep_ids-k-requires-in-loop-b
keep_ids-k-requires-in-loop-b c = let u = reads_here c.args.s.now c.args.at.now c.loop-b.b c.requires.0 c.loop-b-test.true c.record_at-x.ensures in let f = wants_few c.args.s.now c.args.at.now c.loop-b.b c.requires.0 c.loop-b-test.true c.record_at-x.ensures c.requires.1 in (u.0, u.1, c.requires.2, omega (arith, c.requires.4, c.loop-b-test.true), omega (arith, f.0, f.1, c.keep_ids-k.ensures.1, c.if-v-k-lt256.false, c.loop-b.invariant.1, c.loop-b.invariant.2))

pub pack-requires : goal.pack-requires
pack-requires c = outs_small c.args.s.now c.args.at.now c.loop-b.b c.requires.0 c.loop-b-test.true c.record_at-x.ensures c.requires.2

pub offset_bounds-outs-b : goal.offset_bounds-outs-b
offset_bounds-outs-b c = omega (arith, c.loop-b-test.true, c.requires.4)

pub bounds-outs-b : goal.bounds-outs-b
bounds-outs-b c = omega (arith, c.loop-b-test.true, c.requires.7, c.loop-b.invariant.7)

pub loop-b-preserved : goal.loop-b-preserved
loop-b-preserved c = let f = wants_few c.args.s.now c.args.at.now c.loop-b.b c.requires.0 c.loop-b-test.true c.record_at-x.ensures c.requires.1 in (records_go c.args.s.now c.args.at.now c.args.a c.loop-b.b (omega arith) (wants_are c.args.s.now c.args.at.now c.loop-b.b c.requires.0 c.loop-b-test.true c.record_at-x.ensures) c.loop-b.invariant.0 (rowed_both _ _ c.keep_ids-k.ensures.0 c.keep_ids-k-in-loop-b.ensures.0), omega (arith, c.keep_ids-k.ensures.1, c.keep_ids-k-in-loop-b.ensures.1, f.0, f.1, c.if-v-k-lt256.false, c.loop-b.invariant.1, c.loop-b.invariant.2), omega (arith, c.loop-b.invariant.2), c.keep_ids-k-in-loop-b.ensures.0.sizes.0 ∙ c.keep_ids-k.ensures.0.sizes.0 ∙ c.loop-b.invariant.3, c.keep_ids-k-in-loop-b.ensures.0.sizes.1 ∙ c.keep_ids-k.ensures.0.sizes.1 ∙ c.loop-b.invariant.4, λ e. absurd (let z : ⊥ = omega arith in z), outs_go c.loop-b.invariant.6 (omega (arith, c.loop-b-test.true, c.requires.7, c.loop-b.invariant.7)) (outs_noted c.args.s.now c.args.at.now c.loop-b.b c.requires.0 c.loop-b-test.true c.record_at-x.ensures c.pack.ensures.0 c.pack.ensures.1), length-set c.loop-b.outs c.loop-b.b c.pack.result ∙ c.loop-b.invariant.7)

pub shape_of-outs : goal.shape_of-outs
shape_of-outs c = c.loop-b.invariant.7

pub shape_of-v : goal.shape_of-v
shape_of-v c = c.loop-b.invariant.2

pub returns : goal.returns
returns c = let e : length c.args.at.now ≡ c.loop-b.b = omega (arith, c.loop-b-test.false) in
    (rw e c.loop-b.invariant.0, c.requires.3, le_refl _, c.loop-b.invariant.1, rw e c.loop-b.invariant.6, c.loop-b.invariant.3, c.loop-b.invariant.4)
