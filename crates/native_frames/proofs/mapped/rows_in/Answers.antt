use Rattle.std.proofs.Common.{◌+◌, ap, drop, get_or, map, refl, []}
use Rattle.std.proofs.lemmas.List.{drop_all}
use Rattle.elf64_core.specs.declared.note.Note.{Note}
use Rattle.elf64_core.specs.Notes.{noted}
use Rattle.native_frames.specs.Tables.{row_of}
use Rattle.native_frames.proofs.Rest.{next}
use Rattle.native_frames.proofs.RowTables.{rows_end, rows_more}
use Rattle.native_frames.proofs.mapped.rows_in.Goals as goal

-- what stands for a note behind the end of a list
abbrev no_note : Note
no_note = record { kind = 0; desc = record { ref_ptr = (0, 0); now = [] } }

pub loop-note-preserved : goal.loop-note-preserved
loop-note-preserved c =
    let notes = c.args.notes.now in
    let i = c.loop-note.note-index in
    let x = get_or notes i no_note in
    rows_more (map noted notes) (map noted (drop i notes)) (noted x) (map noted (drop (i + 1) notes))
    (map row_of c.loop-note.rows.items) _
    (ap (map noted) (next notes i x no_note c.loop-note-test.true refl)) c.in_ok-add_rows.ensures
    c.loop-note.invariant

pub returns : goal.returns
returns c = rows_end (map noted c.args.notes.now) _ (map row_of c.loop-note.rows.items)
    (ap (map noted) (drop_all c.loop-note.note-index c.args.notes.now c.loop-note-test.false)) c.loop-note.invariant
