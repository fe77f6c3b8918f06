use Rattle.queue.proofs.read.LinksLaws.{thinner_joins, thinner_new}
use Rattle.queue.proofs.read.LinksNameLaws.{no_is}
use Rattle.std.specs.Prelude.{refl}
use Rattle.std.proofs.Common.{arith}
use Rattle.queue.proofs.read.links.add_once.Goals as goal

pub is_again-requires : goal.is_again-requires
is_again-requires c = omega (arith, c.requires)

pub overflow_sub-w : goal.overflow_sub-w
overflow_sub-w c = omega (arith, (c.is_again.ensures c.if-is_again.true).some)

pub overflow_sub-v : goal.overflow_sub-v
overflow_sub-v c = omega (arith, (c.is_again.ensures c.if-is_again.true).some)

pub returns-then-is_again : goal.returns-then-is_again
returns-then-is_again c = thinner_joins c.args.v.now c.args.k c.args.x c.requires (c.is_again.ensures c.if-is_again.true) (no_is c.args.x) refl

pub returns : goal.returns
returns c = thinner_new c.args.v.now c.args.k c.args.x c.requires refl
