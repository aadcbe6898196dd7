use Rattle.std.proofs.Common.{◌+◌, ◌∙◌, ◌++◌, ap, append-nil, drop, get_or, map, refl, sym}
use Rattle.std.specs.Prelude.{option_to_list}
use Rattle.std.proofs.lemmas.List.{at_drop_all}
use Rattle.elf64_core.specs.Notes.{noted}
use Rattle.thread_registers.proofs.Rest.{cons_as_list, next, no_note, part_more}
use Rattle.salvage_report.specs.Pointers.{pointer_noted, pointers_of}
use Rattle.salvage_report.proofs.pointers.pointers_of.Goals as goal

pub loop-note-preserved : goal.loop-note-preserved
loop-note-preserved c =
    let notes = c.args.notes.now in
    let i = c.loop-note.note-index in
    let x = get_or notes i no_note in
    let told = pointer_noted c.args.machine (noted x) in
    let rest = pointers_of c.args.machine (map noted (drop (i + 1) notes)) in
    part_more (λ xs. pointers_of c.args.machine (map noted xs)) (option_to_list told) _ _ _ notes i
    (ap (λ xs. pointers_of c.args.machine (map noted xs)) (next notes i x no_note c.loop-note-test.true refl)
    ∙ cons_as_list told rest)
    c.loop-note.invariant
    (c.in_ok-add_pointer.ensures ∙ ap (λ o. c.loop-note.pointers.items ++ option_to_list o) c.pointer_noted.ensures)

pub returns : goal.returns
returns c =
    let told = c.loop-note.pointers.items in
    sym (append-nil told)
    ∙ ap (λ ts. told ++ ts) (sym (at_drop_all (λ xs. pointers_of c.args.machine (map noted xs)) c.args.notes.now
    c.loop-note.note-index c.loop-note-test.false)) ∙ c.loop-note.invariant
