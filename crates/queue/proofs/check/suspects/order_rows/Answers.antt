use Rattle.std.proofs.Common.{rules}
use Rattle.queue.proofs.check.SuspectsRowLaws.{shuffled_by, sorted_rows}
use Rattle.queue.proofs.check.suspects.order_rows.Goals as goal

pub returns : goal.returns
returns c = record { same = shuffled_by c.sort_unstable_by.ensures.permutation; order = sorted_rows c.args.hex c.args.s.now _ c.sort_unstable_by.ensures.sorted (λ a r q k. search rules) }
