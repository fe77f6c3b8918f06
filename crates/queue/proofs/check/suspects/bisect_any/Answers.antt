use Rattle.queue.proofs.check.SuspectsRowLaws.{cut_at, parted}
use Rattle.queue.specs.check.SuspectsAs.{up_to}
use Rattle.std.proofs.Common.{rules}
use Rattle.std.proofs.lemmas.List.Sorted.{IsPartitionPoint-from_clause}
use Rattle.queue.proofs.check.suspects.bisect_any.Goals as goal

pub returns : goal.returns
returns c = cut_at _ _ _ c.partition_point.ensures.bound (IsPartitionPoint-from_clause (λ x. up_to c.args.hex c.args.s.now x c.args.y) _ _ c.partition_point.ensures.partitioned (parted _ _ _ c.requires c.args.y) (λ a r q k. search rules))
