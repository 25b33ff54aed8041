use Rattle.std.proofs.Common.{◌+◌, length, leb, leb-true, rules}
use Rattle.std.proofs.lemmas.List.Sorted.{IsPartitionPoint-from_clause, IsPartitionedBy-leb}
use Rattle.bx_patch.proofs.preview.order.count_ended.Goals as goal

pub returns-clause-ended : goal.returns-clause-ended
returns-clause-ended g c k d low high =
    let parted = IsPartitionedBy-leb (λ p. p.at + length p.bytes) _ c.args.at c.requires.ordered.1 in
    let point = IsPartitionPoint-from_clause (λ p. leb (p.at + length p.bytes) c.args.at) _ _ c.partition_point.ensures.partitioned parted (λ a r q k. search rules) in
    leb-true _ _ (point.0 k d low high)
