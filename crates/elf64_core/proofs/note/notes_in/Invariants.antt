use Rattle.std.proofs.Common.{length, map}
use Rattle.elf64_core.specs.Notes.{NotesThen, noted}
use Rattle.elf64_core.proofs.note.notes_in.Given as goal

abbrev pub invariant-loop-rest : goal.invariant-loop-rest
invariant-loop-rest l = NotesThen l.bytes (map noted l.notes.items) l.rest

abbrev pub decreases-loop-rest : goal.decreases-loop-rest
decreases-loop-rest l = length l.rest
