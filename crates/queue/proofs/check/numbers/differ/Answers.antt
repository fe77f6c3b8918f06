use Rattle.queue.proofs.check.NumbersLaws.{differ_before, sorted_ordered}
use Rattle.queue.proofs.check.SuspectsRowLaws.{shuffled_by}
use Rattle.queue.proofs.check.numbers.differ.Goals as goal

pub returns-then-all_new : goal.returns-then-all_new
returns-then-all_new c = c.all_new.ensures c.if-all_new.true

pub neighbours_differ-requires : goal.neighbours_differ-requires
neighbours_differ-requires c = sorted_ordered _ c.sort_unstable.ensures.sorted

pub returns : goal.returns
returns c = differ_before (shuffled_by c.sort_unstable.ensures.permutation) c.neighbours_differ.ensures
