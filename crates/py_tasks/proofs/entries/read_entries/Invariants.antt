use Rattle.std.proofs.Common.{◌+◌, ◌*◌, length}
use Rattle.std.specs.Prelude.{map}
use Rattle.task_sets.proofs.Gathering.{Gathering}
use Rattle.py_tasks.specs.Entries.{entries_of}
use Rattle.py_tasks.specs.Shown.{entry_shown}
use Rattle.py_tasks.proofs.entries.read_entries.Given as goal

abbrev pub invariant-loop-address : goal.invariant-loop-address
invariant-loop-address g l =
    Gathering (λ m. entries_of l.layout l.described m l.limit l.addresses) (16568 + 17 * l.limit)
    (g.P.ProcessMemory.seen l.initial.process) (g.P.ProcessMemory.seen l.process) (length l.addresses)
    l.address-index (map entry_shown l.entries.items)
