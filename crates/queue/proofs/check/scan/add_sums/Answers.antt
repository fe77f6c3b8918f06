use Rattle.std.specs.Prelude.{ℕ, ◌+◌, Bool, ◌&&◌, refl}
use Rattle.std.proofs.Common.{ap, arith}
use Rattle.queue.proofs.check.ScanCheckLaws.{added}
use Rattle.queue.proofs.check.scan.add_sums.Goals as goal

pub weigh-requires : goal.weigh-requires
weigh-requires c = c.requires.1

pub overflow_add-h : goal.overflow_add-h
overflow_add-h c = omega (arith, c.requires.0.holders, c.weigh.ensures.1)

pub weigh-requires-2 : goal.weigh-requires-2
weigh-requires-2 c = c.requires.1

pub overflow_add-b : goal.overflow_add-b
overflow_add-b c = omega (arith, c.requires.0.bytes, c.weigh-2.ensures.1)

pub weigh-requires-3 : goal.weigh-requires-3
weigh-requires-3 c = c.requires.1

pub overflow_add-m : goal.overflow_add-m
overflow_add-m c = omega (arith, c.requires.0.mined, c.weigh-3.ensures.1)

pub weigh-requires-4 : goal.weigh-requires-4
weigh-requires-4 c = c.requires.1

pub overflow_add-e : goal.overflow_add-e
overflow_add-e c = omega (arith, c.requires.0.minedbytes, c.weigh-4.ensures.1)

pub returns : goal.returns
returns c = (added (ap (λ (x : ℕ). c.args.a.holders + x) c.weigh.ensures.0) (ap (λ (x : ℕ). c.args.a.bytes + x) c.weigh-2.ensures.0) (ap (λ (x : ℕ). c.args.a.mined + x) c.weigh-3.ensures.0) (ap (λ (x : ℕ). c.args.a.minedbytes + x) c.weigh-4.ensures.0) (ap (λ (x : Bool). c.args.a.right && x) c.right.ensures) refl refl (omega (arith, c.weigh.ensures.0, c.weigh.ensures.1)) (omega (arith, c.weigh-2.ensures.0, c.weigh-2.ensures.1)) (omega (arith, c.weigh-3.ensures.0, c.weigh-3.ensures.1)) (omega (arith, c.weigh-4.ensures.0, c.weigh-4.ensures.1)), refl)
