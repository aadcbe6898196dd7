use Rattle.std.proofs.Common.{◌≡◌, ◌++◌, drop, map}
use Rattle.elf64_core.specs.Notes.{noted}
use Rattle.memory_sections.specs.Waits.{standings_of}
use Rattle.memory_sections.proofs.waits.standings_of.Given as goal

abbrev pub invariant-loop-note : goal.invariant-loop-note
invariant-loop-note l = l.standings.items ++ standings_of l.machine (map noted (drop l.note-index l.notes))
    ≡ standings_of l.machine (map noted l.notes)
