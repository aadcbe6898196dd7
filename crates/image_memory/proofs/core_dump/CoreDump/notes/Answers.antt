use Rattle.std.proofs.Common.{map, subst, ◌∙◌}
use Rattle.elf64_core.specs.Notes.{noted}
use Rattle.image_memory.specs.Contents.{AreContents}
use Rattle.image_memory.specs.Notes.{NotesOf, note_segments}
use Rattle.image_memory.proofs.Noted.{NotesOf-once, core_notes_are}
use Rattle.image_memory.proofs.core_dump.CoreDump.notes.Goals as goal

pub returns-in-Ok-core_notes-clause-are : goal.returns-in-Ok-core_notes-clause-are
returns-in-Ok-core_notes-clause-are c =
    let core = subst (λ bs. AreContents bs c.self.inside.contents) c.self.view_is c.self.invariant in
    let notes = map noted c.in-Ok-core_notes.notes.items in
    let same = c.in-Ok.ensures.same ∙ c.deref.ensures.value ∙ c.self.view_is in
    let own = subst (λ bs. NotesOf bs (note_segments bs) notes) same c.in-Ok-core_notes.ensures.notes in
    core_notes_are c.args.self.now notes core.core own

pub returns-in-Ok-core_notes-clause-only : goal.returns-in-Ok-core_notes-clause-only
returns-in-Ok-core_notes-clause-only c = λ others h.
    let notes = map noted c.in-Ok-core_notes.notes.items in
    let same = c.in-Ok.ensures.same ∙ c.deref.ensures.value ∙ c.self.view_is in
    let own = subst (λ bs. NotesOf bs (note_segments bs) notes) same c.in-Ok-core_notes.ensures.notes in
    NotesOf-once c.args.self.now (note_segments c.args.self.now) others notes h.found.together own
