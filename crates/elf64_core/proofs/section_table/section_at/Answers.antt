use Rattle.std.proofs.Common.{◌+◌, ◌*◌, Some, ap, sym, ◌∙◌, arith}
use Rattle.elf64_core.specs.Sections.{section_at, section_in, section_table, section_count}
use Rattle.elf64_core.proofs.Tables.{section_get, section_missing}
use Rattle.elf64_core.proofs.section_table.section_at.Goals as goal

pub returns-then-number-count : goal.returns-then-number-count
unfolding section_at
returns-then-number-count c =
    let bytes = c.args.bytes.now in
    ap Some c.section_in.ensures
    ∙ ap (λ a. Some (section_in bytes (a + 64 * c.args.number))) c.u64_in.ensures
    ∙ sym (section_get bytes (section_table bytes) (section_count bytes) c.args.number (omega arith))

pub returns-else-number-count : goal.returns-else-number-count
unfolding section_at
returns-else-number-count c =
    let bytes = c.args.bytes.now in
    sym (section_missing bytes (section_table bytes) (section_count bytes) c.args.number (omega arith))
