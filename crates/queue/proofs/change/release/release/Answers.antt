use Rattle.std.specs.Prelude.{◌+◌, refl}
use Rattle.std.proofs.Common.{ap, arith}
use Rattle.queue.proofs.change.ReleaseLaws.{row_stands, walk_end, walk_go, walk_start}
use Rattle.queue.proofs.change.release.release.Goals as goal

pub loop-j-init : goal.loop-j-init
loop-j-init c = (walk_start _ _ _ _ _ _, refl)

pub bytes_at-sum-requires : goal.bytes_at-sum-requires
bytes_at-sum-requires c = row_stands _ c.args.rows.now c.loop-j.j _ c.requires.2 c.loop-j-test.true

pub overflow_add-sum : goal.overflow_add-sum
overflow_add-sum c = omega (arith, c.bytes_at-sum.ensures.1, c.loop-j.invariant.0.small, c.loop-j.invariant.0.within, c.requires.1)

pub add_place-g-requires : goal.add_place-g-requires
add_place-g-requires c = omega (arith, c.loop-j.invariant.0.fewer, c.loop-j.invariant.0.size, c.loop-j-test.true, c.requires.0)

pub overflow_add-decided : goal.overflow_add-decided
overflow_add-decided c = omega (arith, c.loop-j.invariant.1, c.loop-j-test.true, c.requires.1)

pub loop-j-preserved : goal.loop-j-preserved
loop-j-preserved c = (walk_go _ _ _ _ _ _ c.loop-j.invariant.0 c.loop-j-test.true c.bytes_at-sum.ensures.0 c.bytes_at-sum.ensures.1 c.is_out-out.ensures c.requires.0 c.add_place-g.ensures, ap (λ i. i + 1) c.loop-j.invariant.1)

pub returns : goal.returns
returns c = let e = walk_end _ _ _ _ _ c.loop-j.invariant.0 (omega arith) in (e.0, e.1, c.loop-j.invariant.0.size, omega (arith, c.loop-j.invariant.1, c.loop-j.invariant.0.within, c.loop-j-test.false))
