use Rattle.std.proofs.Common.{arith, rules, tests}
use Rattle.std.proofs.lemmas.List.Sorted.{IsPartitionPoint-from_clause}
use Rattle.native_merge.proofs.Marks.{is_below, last_of, none_of, partitioned}
use Rattle.native_merge.proofs.source_map.last_below.Goals as goal

pub returns-then-count-eq0 : goal.returns-then-count-eq0
returns-then-count-eq0 c =
    let split = IsPartitionPoint-from_clause (is_below c.args.lineno) c.args.marks.now c.partition_point-count.result c.partition_point-count.ensures.partitioned
    (partitioned c.args.lineno c.args.marks.now c.requires) (λ x r q k. search (rules, tests)) in
    none_of c.args.lineno c.args.marks.now c.partition_point-count.result c.if-count-eq0.true split.1

pub returns : goal.returns
returns c =
    let split = IsPartitionPoint-from_clause (is_below c.args.lineno) c.args.marks.now c.partition_point-count.result c.partition_point-count.ensures.partitioned
    (partitioned c.args.lineno c.args.marks.now c.requires) (λ x r q k. search (rules, tests)) in
    last_of c.args.lineno c.args.marks.now c.partition_point-count.result c.index-marks-count.result (omega arith) c.partition_point-count.ensures.bound
    c.index-marks-count.is split.0 split.1
