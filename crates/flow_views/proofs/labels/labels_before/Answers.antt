use Rattle.std.proofs.Common.{ltb, ltb-true, ltb-false, arith, rules}
use Rattle.std.proofs.lemmas.List.Sorted.{IsPartitionPoint-from_clause, IsPartitionedBy-ltb}
use Rattle.flow_views.proofs.texts.Runs.{places_rise}
use Rattle.flow_views.proofs.labels.labels_before.Goals as goal

pub returns-clause-before : goal.returns-clause-before
returns-clause-before c =
    let parted = IsPartitionedBy-ltb (λ l. l.place) _ c.args.place (places_rise c.args.labels.now c.requires) in
    let point = IsPartitionPoint-from_clause (λ l. ltb l.place c.args.place) _ _ c.partition_point.ensures.partitioned parted (λ a r q k. search rules) in
    λ k d low. ltb-true _ _ (point.0 k d (omega arith) low)

pub returns-clause-behind : goal.returns-clause-behind
returns-clause-behind c =
    let parted = IsPartitionedBy-ltb (λ l. l.place) _ c.args.place (places_rise c.args.labels.now c.requires) in
    let point = IsPartitionPoint-from_clause (λ l. ltb l.place c.args.place) _ _ c.partition_point.ensures.partitioned parted (λ a r q k. search rules) in
    λ k d low high. ltb-false _ _ (point.1 k d low high)
