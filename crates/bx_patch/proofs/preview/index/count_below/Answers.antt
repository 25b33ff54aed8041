use Rattle.std.proofs.Common.{ltb, ltb-true, ltb-false, rules}
use Rattle.std.proofs.lemmas.List.Sorted.{IsPartitionPoint-from_clause, IsPartitionedBy-ltb}
use Rattle.bx_patch.proofs.preview.index.count_below.Goals as goal

pub returns-clause-below : goal.returns-clause-below
returns-clause-below c k d low high =
    let parted = IsPartitionedBy-ltb (λ x. x) _ c.args.end c.requires.rise in
    let point = IsPartitionPoint-from_clause (λ x. ltb x c.args.end) _ _ c.partition_point.ensures.partitioned parted (λ a r q k. search rules) in
    ltb-true _ _ (point.0 k d low high)

pub returns-clause-rest : goal.returns-clause-rest
returns-clause-rest c k d low high =
    let parted = IsPartitionedBy-ltb (λ x. x) _ c.args.end c.requires.rise in
    let point = IsPartitionPoint-from_clause (λ x. ltb x c.args.end) _ _ c.partition_point.ensures.partitioned parted (λ a r q k. search rules) in
    ltb-false _ _ (point.1 k d low high)
