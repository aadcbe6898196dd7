use Rattle.std.proofs.Common.{◌≡◌, ◌++◌, drop, map}
use Rattle.elf64_core.specs.Notes.{noted}
use Rattle.salvage_report.specs.Pointers.{pointers_of}
use Rattle.salvage_report.proofs.pointers.pointers_of.Given as goal

abbrev pub invariant-loop-note : goal.invariant-loop-note
invariant-loop-note l = l.pointers.items ++ pointers_of l.machine (map noted (drop l.note-index l.notes))
    ≡ pointers_of l.machine (map noted l.notes)
