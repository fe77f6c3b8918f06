use Rattle.queue.proofs.check.SuspectsRowLaws.{same_row}
use Rattle.std.specs.Prelude.{refl}
use Rattle.queue.proofs.read.LinksLaws.{again_is}
use Rattle.queue.specs.bytes.ReaderLaws.{false_true}
use Rattle.std.proofs.Common.{arith}
use Rattle.queue.proofs.read.links.is_again.Goals as goal

pub returns-then-k-eq0 : goal.returns-then-k-eq0
returns-then-k-eq0 c = λ e. false_true e

pub overflow_sub-w : goal.overflow_sub-w
overflow_sub-w c = omega (arith, c.if-k-eq0.false)

pub bounds-v-k : goal.bounds-v-k
bounds-v-k c = omega (arith, c.requires, c.if-k-eq0.false)

pub returns : goal.returns
returns c = again_is c.if-k-eq0.false (same_row c.cmp_rows.result c.is_eq.ensures c.cmp_rows.ensures) refl
