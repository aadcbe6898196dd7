use Rattle.std.proofs.Common.{◌∙◌, ◌++◌, ap, map, sym}
use Rattle.elf64_core.specs.Notes.{noted}
use Rattle.native_frames.specs.Tables.{row_of}
use Rattle.native_frames.proofs.RowTables.{adds_none, adds_own}
use Rattle.native_frames.proofs.mapped.add_rows.Goals as goal

pub returns-then-not-is_table : goal.returns-then-not-is_table
returns-then-not-is_table c = adds_none (noted c.args.note.now) (map row_of c.args.rows.now.items)
    (sym c.is_table.ensures ∙ c.if-not-is_table.true)

pub returns : goal.returns
returns c = adds_own (noted c.args.note.now) c.args.rows.now.items c.in_ok-own.own.items _
    (sym c.is_table.ensures ∙ c.if-not-is_table.false) c.in_ok-own.ensures (c.in_ok-extend_from_slice.ensures.items
    ∙ ap (λ ys. c.args.rows.now.items ++ ys) c.deref.ensures.value)
