use Rattle.std.proofs.Common.{ltb, rules, arith}
use Rattle.std.proofs.lemmas.Bool.{ltb-true, ltb-false}
use Rattle.std.proofs.lemmas.List.Sorted.{IsPartitionedBy-ltb, IsPartitionPoint-from_clause}
use Rattle.office_days.proofs.ClosedDays.{days_in_order}
use Rattle.office_days.proofs.working.place_of.Goals as goal

pub returns-clause-before : goal.returns-clause-before
returns-clause-before c =
    let parted = IsPartitionPoint-from_clause (λ other. ltb other c.args.day) c.args.closed.now c.partition_point.result c.partition_point.ensures.partitioned
    (IsPartitionedBy-ltb (λ x. x) c.args.closed.now c.args.day (days_in_order c.args.closed.now c.requires)) (λ a r f' called. search rules) in
    λ k below. ltb-true _ _ (parted.0 k 0 (omega arith) below)

pub returns-clause-after : goal.returns-clause-after
returns-clause-after c =
    let parted = IsPartitionPoint-from_clause (λ other. ltb other c.args.day) c.args.closed.now c.partition_point.result c.partition_point.ensures.partitioned
    (IsPartitionedBy-ltb (λ x. x) c.args.closed.now c.args.day (days_in_order c.args.closed.now c.requires)) (λ a r f' called. search rules) in
    λ k from within. ltb-false _ _ (parted.1 k 0 from within)
