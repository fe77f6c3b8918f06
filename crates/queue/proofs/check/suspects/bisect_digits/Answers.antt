use Rattle.queue.proofs.check.SuspectsRowLaws.{cut_at, id_read, parted}
use Rattle.queue.specs.check.SuspectsAs.{up_to}
use Rattle.std.specs.Prelude.{true}
use Rattle.std.proofs.Common.{arith, rules}
use Rattle.std.proofs.lemmas.List.Sorted.{IsPartitionPoint-from_clause}
use Rattle.queue.proofs.check.suspects.bisect_digits.Goals as goal

pub returns : goal.returns
returns c =
    let e = id_read true c.args.s.now c.args.y c.new-frame.ensures (let k = c.len.ensures.is in omega (arith, k, c.if-len-lt32.false)) c.id-id.ensures.is in
    cut_at _ _ _ c.partition_point.ensures.bound (IsPartitionPoint-from_clause (λ x. up_to true c.args.s.now x c.args.y) _ _ c.partition_point.ensures.partitioned (parted _ _ _ c.requires c.args.y) (λ a r q k. search (rules, e)))
