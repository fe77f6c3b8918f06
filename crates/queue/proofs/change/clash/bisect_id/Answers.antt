use Rattle.queue.proofs.change.ClashLaws.{id_cut, id_parted}
use Rattle.queue.specs.change.ClashAs.{below_row}
use Rattle.std.proofs.Common.{rules}
use Rattle.std.proofs.lemmas.List.Sorted.{IsPartitionPoint-from_clause}
use Rattle.queue.proofs.change.clash.bisect_id.Goals as goal

pub returns : goal.returns
returns c = id_cut _ _ _ c.partition_point.ensures.bound (IsPartitionPoint-from_clause (λ x. below_row c.args.ids.now c.args.id x) _ _ c.partition_point.ensures.partitioned (id_parted _ _ _ c.requires) (λ a r q k. search rules))
