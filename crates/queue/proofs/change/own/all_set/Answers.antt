use Rattle.std.specs.Prelude.{refl}
use Rattle.std.proofs.Common.{arith}
use Rattle.queue.proofs.change.OwnFlagLaws.{in_bits}
use Rattle.queue.proofs.change.OwnLaws.{set_end, set_go, set_stop}
use Rattle.queue.specs.change.OwnAs.{bits_in}
use Rattle.queue.proofs.change.own.all_set.Goals as goal

pub loop-left-init : goal.loop-left-init
loop-left-init c = (refl, refl)

pub flag_at-requires : goal.flag_at-requires
flag_at-requires c = omega (arith, c.loop-left.invariant.1, c.requires.0, c.loop-left-test.true)

pub returns-then-not-flag_at : goal.returns-then-not-flag_at
returns-then-not-flag_at c = set_stop (bits_in c.args.flags.now) c.loop-left.i c.loop-left._left c.loop-left.invariant.0 c.loop-left-test.true (in_bits c.args.flags.now (omega (arith, c.loop-left.invariant.1, c.requires.0, c.loop-left-test.true))) c.flag_at.ensures c.if-not-flag_at.true

pub overflow_add-i : goal.overflow_add-i
overflow_add-i c = omega (arith, c.loop-left.invariant.1, c.requires.1, c.loop-left-test.true)

pub loop-left-preserved : goal.loop-left-preserved
loop-left-preserved c = (set_go (bits_in c.args.flags.now) c.loop-left.i c.loop-left._left c.loop-left.invariant.0 c.loop-left-test.true (in_bits c.args.flags.now (omega (arith, c.loop-left.invariant.1, c.requires.0, c.loop-left-test.true))) c.flag_at.ensures c.if-not-flag_at.false, omega (arith, c.loop-left.invariant.1, c.loop-left-test.true))

pub returns : goal.returns
returns c = set_end (bits_in c.args.flags.now) c.loop-left.i c.loop-left._left c.loop-left.invariant.0 (omega arith)
