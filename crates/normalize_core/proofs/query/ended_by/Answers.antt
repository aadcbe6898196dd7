use Rattle.std.proofs.Common.{leb, rules}
use Rattle.std.proofs.lemmas.List.Sorted.{IsPartitionPoint-from_clause, IsPartitionedBy-leb}
use Rattle.maps_text.specs.declared.entry.MapsEntry.{MapsEntry}
use Rattle.normalize_core.proofs.Coverings.{ends_ascend}
use Rattle.normalize_core.proofs.query.ended_by.Goals as goal

pub returns : goal.returns
returns c =
    let entries = c.args.entries.now in
    let parted = IsPartitionedBy-leb (λ (e : MapsEntry). e.range.end) entries c.args.addr (ends_ascend entries c.requires) in
    IsPartitionPoint-from_clause (λ (e : MapsEntry). leb e.range.end c.args.addr) _ _ c.partition_point.ensures.partitioned parted (λ a r q k. search rules)
