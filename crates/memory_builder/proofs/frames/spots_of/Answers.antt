use Rattle.std.proofs.Common.{◌≡◌, ◌∙◌, ◌+◌, length, map, ap, arith}
use Rattle.std.specs.Prelude.{max}
use Rattle.std.specs.List.{sum_by}
use Rattle.memory_builder.specs.Mirror.{frame_in, local_in}
use Rattle.memory_builder.specs.Sizes.{capped, name_size, records_size, rounded, table_len}
use Rattle.memory_builder.proofs.Growing.{exact}
use Rattle.memory_builder.proofs.Spots.{parts_fit, spots_are}
use Rattle.memory_builder.proofs.frames.spots_of.Goals as goal

pub overflow_add-values : goal.overflow_add-values
unfolding records_size
overflow_add-values c =
    let l = c.args.layout.now in
    let f = frame_in c.args.frame.now in
    let parts = parts_fit l c.args.at f c.requires.fits in
    let table : c.table_len.result ≡ table_len l f = c.table_len.ensures.value
    ∙ ap (λ xs. max l.bytes.size (l.bytes.at + length xs)) c.requires.lines in
    let names : c.names_size.result ≡ sum_by (name_size l) f.locals =
    exact c.names_size.result (sum_by (name_size l) f.locals) (c.names_size.ensures
    ∙ ap (λ xs. capped (sum_by (name_size l) (map local_in xs))) c.deref.ensures.value) (omega (
      arith,
      parts.names,
    )) in
    omega (
      arith,
      parts.names,
      names,
      c.rounded.ensures.value ∙ ap rounded c.frame_len.ensures.value,
      c.rounded-2.ensures.value ∙ ap rounded c.from.ensures,
      c.rounded-3.ensures.value ∙ ap rounded table,
      c.rounded-4.ensures.value ∙ ap rounded c.tuple_len.ensures.value,
      c.rounded-5.ensures.value ∙ ap rounded c.text_len.ensures.value,
      c.rounded-6.ensures.value ∙ ap rounded c.text_len-2.ensures.value,
    )

pub returns : goal.returns
returns c =
    let l = c.args.layout.now in
    let f = frame_in c.args.frame.now in
    let parts = parts_fit l c.args.at f c.requires.fits in
    let table : c.table_len.result ≡ table_len l f = c.table_len.ensures.value
    ∙ ap (λ xs. max l.bytes.size (l.bytes.at + length xs)) c.requires.lines in
    spots_are l c.args.at f c.rounded.result c.rounded-2.result c.rounded-3.result c.rounded-4.result c.rounded-5.result
    c.rounded-6.result c.names_size.result
    (c.rounded.ensures.value ∙ ap rounded c.frame_len.ensures.value)
    (c.rounded-2.ensures.value ∙ ap rounded c.from.ensures)
    (c.rounded-3.ensures.value ∙ ap rounded table)
    (c.rounded-4.ensures.value ∙ ap rounded c.tuple_len.ensures.value)
    (c.rounded-5.ensures.value ∙ ap rounded c.text_len.ensures.value)
    (c.rounded-6.ensures.value ∙ ap rounded c.text_len-2.ensures.value)
    (exact c.names_size.result (sum_by (name_size l) f.locals) (c.names_size.ensures
    ∙ ap (λ xs. capped (sum_by (name_size l) (map local_in xs))) c.deref.ensures.value) (omega (
      arith,
      parts.names,
    )))
