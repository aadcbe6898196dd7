use Rattle.std.proofs.Common.{◌+◌, ap, drop, get_or, map, refl}
use Rattle.std.proofs.lemmas.List.{drop_all}
use Rattle.elf64_core.specs.Notes.{noted}
use Rattle.thread_registers.proofs.Rest.{next, no_note}
use Rattle.native_stacks.proofs.Firsts.{notes_end, notes_more}
use Rattle.native_stacks.proofs.first.notes_of_first.Goals as goal

pub loop-note-preserved : goal.loop-note-preserved
loop-note-preserved c =
    let notes = c.args.notes.now in
    let i = c.loop-note.note-index in
    let x = get_or notes i no_note in
    rw (c.is_either-is_met.ensures, c.is_status-is_status.ensures) (notes_more (map noted c.loop-note.kept.items) _ _
    (map noted (drop i notes)) (map noted (drop (i + 1) notes)) (noted x) c.loop-note.is_met
    (ap (map noted) (next notes i x no_note c.loop-note-test.true refl)) c.loop-note.invariant
    (rw (c.are_both.ensures, c.is_status-is_status.ensures) at c.in_ok-push_unless.ensures))

pub returns : goal.returns
returns c = notes_end (map noted c.loop-note.kept.items) _ (map noted (drop c.loop-note.note-index c.args.notes.now))
    c.loop-note.is_met (ap (map noted) (drop_all c.loop-note.note-index c.args.notes.now c.loop-note-test.false))
    c.loop-note.invariant
