use Rattle.std.proofs.Common.{◌≡◌, ◌∙◌, ◌+◌, ap, length, rules}
use Rattle.std.specs.Int.{w32}
use Rattle.std.proofs.lemmas.Int.{to_z-of_z}
use Rattle.std.specs.Prelude.{max}
use Rattle.py_lines.specs.Coding.{coded}
use Rattle.memory_builder.specs.Mirror.{frame_in}
use Rattle.memory_builder.specs.Sizes.{rounded, table_len}
use Rattle.py_stacks.specs.Lines.{family_of}
use Rattle.memory_builder.proofs.Records.{records_are}
use Rattle.memory_builder.proofs.sizes.records_size.Goals as goal

pub returns-clause-value : goal.returns-clause-value
returns-clause-value c =
    let l = c.args.layout.now in
    let raw = c.args.frame.now in
    let f = frame_in raw in
    let table_is : c.in_ok-table_len.table_len ≡ table_len l f =
    c.in_ok-table_len.ensures.value ∙ ap (λ z. max l.bytes.size
    (l.bytes.at + length (coded (family_of l.lines) z c.deref.result.now))) (to_z-of_z w32 raw.first (search rules))
    ∙ ap (λ rs. max l.bytes.size (l.bytes.at + length (coded (family_of l.lines) raw.first rs))) c.deref.ensures.value
    in
    records_are l f c.rounded-3.result c.rounded-code.result c.rounded-4.result c.rounded-5.result c.rounded.result
    c.rounded-2.result
    (c.rounded-3.ensures.value ∙ ap rounded c.frame_len-frame_len.ensures.value)
    (c.rounded-code.ensures.value ∙ ap rounded c.from.ensures)
    (c.rounded-4.ensures.value ∙ ap rounded table_is)
    (c.rounded-5.ensures.value ∙ ap rounded c.tuple_len-tuple_len.ensures.value)
    (c.rounded.ensures.value ∙ ap rounded c.text_len.ensures.value)
    (c.rounded-2.ensures.value ∙ ap rounded c.text_len-2.ensures.value)
