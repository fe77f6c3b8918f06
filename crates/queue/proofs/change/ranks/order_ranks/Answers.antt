use Rattle.queue.specs.bytes.ReaderLaws.{false_true}
use Rattle.std.proofs.Common.{arith}
use Rattle.queue.proofs.change.ranks.order_ranks.Goals as goal

pub returns-then-s-ge4294967296 : goal.returns-then-s-ge4294967296
returns-then-s-ge4294967296 c = λ e. false_true e

pub returns-then-rows-gone : goal.returns-then-rows-gone
returns-then-rows-gone c = λ e. false_true e

pub rank_rows-requires : goal.rank_rows-requires
rank_rows-requires c = (c.requires.0, c.requires.1, omega (arith, c.if-s-ge4294967296.false), c.if-rows-gone.false)

pub returns : goal.returns
returns c = λ e. record { first = _; are = c.rank_rows.ensures; kept = c.order_rows.ensures.same; order = c.in_order.ensures e; small = omega (arith, c.if-s-ge4294967296.false) }
