use Rattle.std.proofs.Common.{◌≡◌, ◌++◌, drop, map}
use Rattle.elf64_core.specs.Notes.{noted}
use Rattle.native_stacks.specs.First.{notes_behind, notes_of_first}
use Rattle.native_stacks.proofs.first.notes_of_first.Given as goal

abbrev pub invariant-loop-note : goal.invariant-loop-note
invariant-loop-note l = map noted l.kept.items ++ notes_behind l.is_met (map noted (drop l.note-index l.notes))
    ≡ notes_of_first (map noted l.notes)
