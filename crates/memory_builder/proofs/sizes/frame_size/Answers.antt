use Rattle.std.proofs.Common.{◌∙◌, ◌+◌, ◌-◌, ◌^◌, ap, map, arith}
use Rattle.std.specs.Prelude.{min}
use Rattle.std.specs.List.{sum_by}
use Rattle.memory_builder.specs.Mirror.{frame_in, local_in}
use Rattle.memory_builder.specs.Sizes.{capped, frame_size, local_size, name_size, records_size}
use Rattle.memory_builder.proofs.Records.{added_twice}
use Rattle.memory_builder.proofs.Sums.{fits_capped}
use Rattle.memory_builder.proofs.sizes.frame_size.Goals as goal

pub returns : goal.returns
unfolding frame_size
returns c =
    let l = c.args.layout.now in
    let f = frame_in c.args.frame.now in
    let records = c.in_ok-records.ensures in
    added_twice (records_size l f) (sum_by (name_size l) f.locals) (sum_by (local_size l) f.locals)
    c.in_ok-records.records c.names_size-names.result c.values_size-values.result c.saturating_add-2.result
    (records.value ∙ fits_capped (records_size l f) (omega (arith, records.value, records.bound)))
    (c.names_size-names.ensures ∙ ap (λ xs. capped (sum_by (name_size l) (map local_in xs))) c.deref.ensures.value)
    (c.values_size-values.ensures ∙ ap (λ xs. capped (sum_by (local_size l) (map local_in xs))) c.deref-2.ensures.value)
    (c.saturating_add-2.ensures ∙ ap (λ n. min (n + c.values_size-values.result) (2 ^ 64 - 1)) c.saturating_add.ensures)
