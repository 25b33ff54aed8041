use Rattle.std.proofs.Common.{◌+◌, ltb, ltb-false, rules}
use Rattle.std.proofs.lemmas.List.Sorted.{IsPartitionPoint-from_clause, IsPartitionedBy-ltb}
use Rattle.bx_patch.proofs.preview.order.count_begun.Goals as goal

pub returns-clause-behind : goal.returns-clause-behind
returns-clause-behind g c k d low high =
    let end = c.args.at + c.args.count in
    let parted = IsPartitionedBy-ltb (λ p. p.at) _ end c.requires.ordered.0 in
    let point = IsPartitionPoint-from_clause (λ p. ltb p.at end) _ _ c.partition_point.ensures.partitioned parted (λ a r q k. search rules) in
    ltb-false _ _ (point.1 k d low high)
