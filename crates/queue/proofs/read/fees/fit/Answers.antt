use Rattle.std.specs.Prelude.{◌≡◌, ◌+◌, ◌-◌, length}
use Rattle.queue.proofs.read.FeesWalkLaws.{fee_here, size_here, sums_end, sums_small, sums_start, turn_fits, turn_not}
use Rattle.queue.specs.read.FeesAs.{fees_of, sizes_of}
use Rattle.std.proofs.Common.{arith}
use Rattle.queue.proofs.read.fees.fit.Goals as goal
use Rattle.queue.proofs.read.fees.fit.Goals.{then-c-left, else-c-left}

pub loop-i-init : goal.loop-i-init
loop-i-init c = let d : length c.args.candidates.now - (length c.args.candidates.now - c.args.k) ≡ c.args.k = omega arith in rw d (sums_start (sizes_of c.args.candidates.now) (fees_of c.args.candidates.now) c.args.k c.args.left)

pub overflow_add-sum : goal.overflow_add-sum
overflow_add-sum c = omega (arith, sums_small (sizes_of c.args.candidates.now) (fees_of c.args.candidates.now) c.args.k c.args.left c.loop-i.sum (length c.args.candidates.now - c.loop-i.i) (omega arith) (omega (arith, size_here c.args.candidates.now c.loop-i.i (omega arith), c.if-c-left.true)) c.loop-i.invariant, fee_here c.args.candidates.now c.loop-i.i (omega arith), c.requires.1)

pub loop-i-preserved : goal.loop-i-preserved
loop-i-preserved c =
    let e : length c.args.candidates.now - (c.loop-i.i + 1) ≡ length c.args.candidates.now - c.loop-i.i - 1 = omega arith in
    let z = size_here c.args.candidates.now c.loop-i.i (omega arith) in
    let f = fee_here c.args.candidates.now c.loop-i.i (omega arith) in
    rw e (elim c.if-c-left.branch [ then-c-left w ↦ turn_fits (sizes_of c.args.candidates.now) (fees_of c.args.candidates.now) c.args.k c.args.left c.loop-i.sum _ c.if-c-left.sum (omega arith) (omega (arith, z, w.if-c-left.true)) (omega (arith, f, w.sum-is)) c.loop-i.invariant | else-c-left w ↦ turn_not (sizes_of c.args.candidates.now) (fees_of c.args.candidates.now) c.args.k c.args.left c.loop-i.sum _ c.if-c-left.sum (omega arith) (omega (arith, z, w.if-c-left.false)) w.sum-is c.loop-i.invariant ])

pub returns : goal.returns
returns c = sums_end (sizes_of c.args.candidates.now) (fees_of c.args.candidates.now) c.args.k c.args.left c.loop-i.sum _ (let h = c.loop-i-test.false in omega arith) c.loop-i.invariant
