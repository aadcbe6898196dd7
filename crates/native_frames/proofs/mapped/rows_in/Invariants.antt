use Rattle.std.proofs.Common.{drop, map}
use Rattle.elf64_core.specs.Notes.{noted}
use Rattle.native_frames.specs.Tables.{row_of}
use Rattle.native_frames.proofs.RowTables.{RowsSoFar}
use Rattle.native_frames.proofs.mapped.rows_in.Given as goal

abbrev pub invariant-loop-note : goal.invariant-loop-note
invariant-loop-note l =
    RowsSoFar (map noted l.notes) (map noted (drop l.note-index l.notes)) (map row_of l.rows.items)
