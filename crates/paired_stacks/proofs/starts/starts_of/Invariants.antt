use Rattle.std.proofs.Common.{◌≡◌, ◌++◌, drop, map}
use Rattle.elf64_core.specs.Notes.{noted}
use Rattle.paired_stacks.specs.Starts.{starts_of}
use Rattle.paired_stacks.proofs.starts.starts_of.Given as goal

abbrev pub invariant-loop-note : goal.invariant-loop-note
invariant-loop-note l = l.starts.items ++ starts_of l.machine (map noted (drop l.note-index l.notes))
    ≡ starts_of l.machine (map noted l.notes)
