use Rattle.std.proofs.Common.{◌<◌, ◌∷◌, [], length, map, subst, sym, ap, ◌∙◌, rules}
use Rattle.std.proofs.lemmas.List.{map-append}
use Rattle.elf64_core.specs.Notes.{noted, NotesThen}
use Rattle.elf64_core.proofs.Notes.{NotesThen-more, AreNoNotes-from_rest}
use Rattle.elf64_core.proofs.note.notes_in.Goals as goal

pub returns-in_default-clause-bad : goal.returns-in_default-clause-bad
returns-in_default-clause-bad c = λ is.
    let some : 0 < length c.loop-rest.rest.now = search rules in
    AreNoNotes-from_rest c.args.bytes.now (map noted c.loop-rest.notes.items) c.loop-rest.rest.now
    c.loop-rest.invariant some c.in_default.ensures

pub loop-rest-preserved : goal.loop-rest-preserved
loop-rest-preserved c =
    let items = c.loop-rest.notes.items in
    let all = ap (map noted) c.in_ok-push.ensures.items ∙ map-append noted items (c.in-Some.note ∷ []) in
    subst (λ notes. NotesThen c.args.bytes.now notes c.in-Some.after.now) (sym all)
    (NotesThen-more c.args.bytes.now (map noted items) (noted c.in-Some.note) c.loop-rest.rest.now c.in-Some.after.now c.loop-rest.invariant c.in-Some.ensures)
