use Rattle.std.specs.Prelude.{◌≡◌, ℕ, take, length, refl}
use Rattle.std.proofs.Common.{ap, ◌∙◌, le_refl, arith}
use Rattle.queue.proofs.read.LinksBitLaws.{line_in}
use Rattle.queue.proofs.read.ParentsLaws.{listing, listing_end, listing_go, listing_stop}
use Rattle.queue.proofs.read.parents.list_rows.Goals as goal

pub loop-m-init : goal.loop-m-init
loop-m-init c = listing c.args.at.now c.args.bits.now c.args.w _ _

pub first_from-i-requires : goal.first_from-i-requires
first_from-i-requires c = c.loop-m.invariant.clear

pub shape_of-cs-then-n-i : goal.shape_of-cs-then-n-i
shape_of-cs-then-n-i c = c.loop-m.invariant.size

pub shape_of-picked-then-n-i : goal.shape_of-picked-then-n-i
shape_of-picked-then-n-i c = c.loop-m.invariant.room

pub returns-then-n-i : goal.returns-then-n-i
returns-then-n-i c = (listing_stop c.loop-m.invariant c.requires.4 c.loop-m-test.true c.first_from-i.ensures c.if-n-i.true, c.loop-m.invariant.upto)

pub offset_bounds-at-i : goal.offset_bounds-at-i
offset_bounds-at-i c = omega (arith, c.requires.0, c.if-n-i.false)

pub bounds-at-i : goal.bounds-at-i
bounds-at-i c = omega (arith, c.requires.0, c.if-n-i.false)

pub offset_bounds-picked-m : goal.offset_bounds-picked-m
offset_bounds-picked-m c = omega (arith, c.loop-m.invariant.room, c.requires.4, c.loop-m-test.true)

pub bounds-picked-m : goal.bounds-picked-m
bounds-picked-m c = omega (arith, c.loop-m.invariant.room, c.requires.4, c.loop-m-test.true)

pub offset_bounds-cs-i : goal.offset_bounds-cs-i
offset_bounds-cs-i c = omega (arith, c.loop-m.invariant.size, c.if-n-i.false)

pub bounds-cs-i : goal.bounds-cs-i
bounds-cs-i c = omega (arith, c.loop-m.invariant.size, c.if-n-i.false)

pub overflow_mul-i : goal.overflow_mul-i
overflow_mul-i c = let z = line_in (length c.args.cs.now) c.args.w c.first_from-i.result (omega (arith, c.if-n-i.false)) in let g = c.well_formed in omega (arith, z, c.requires.1)

pub overflow_add-i : goal.overflow_add-i
overflow_add-i c = omega (arith, c.if-n-i.false)

pub lower_line-from-requires : goal.lower_line-from-requires
lower_line-from-requires c = let z = line_in (length c.args.cs.now) c.args.w c.first_from-i.result (omega (arith, c.if-n-i.false)) in (omega (arith, z, c.requires.1), c.requires.2)

pub loop-m-preserved : goal.loop-m-preserved
loop-m-preserved c = listing_go c.loop-m.invariant c.requires.4 c.loop-m-test.true c.first_from-i.ensures (omega (arith, c.if-n-i.false)) c.lower_line-from.ensures refl

pub shape_of-cs : goal.shape_of-cs
shape_of-cs c = c.loop-m.invariant.size

pub shape_of-picked : goal.shape_of-picked
shape_of-picked c = c.loop-m.invariant.room

pub returns : goal.returns
returns c = let e : length c.args.cs.now ≡ c.loop-m.m = omega (arith, c.loop-m.invariant.upto, c.loop-m-test.false) in
    (ap (λ (n : ℕ). take n c.loop-m.picked) e ∙ listing_end c.loop-m.invariant c.requires.4 c.loop-m-test.false, le_refl _)
