use Rattle.std.proofs.Common.{◌≡◌, ◌++◌, drop, map}
use Rattle.elf64_core.specs.Notes.{noted}
use Rattle.thread_registers.specs.Threads.{thread_shown, threads_told}
use Rattle.thread_registers.proofs.reading.read_threads.Given as goal

abbrev pub invariant-loop-note : goal.invariant-loop-note
invariant-loop-note l =
    map thread_shown l.threads.items ++ threads_told l.machine l.pythons (map noted (drop l.note-index l.notes))
    ≡ threads_told l.machine l.pythons (map noted l.notes)
