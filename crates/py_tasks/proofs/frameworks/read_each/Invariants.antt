use Rattle.std.proofs.Common.{length}
use Rattle.task_sets.proofs.Gathering.{Gathering}
use Rattle.py_tasks.specs.Frameworks.{frameworks_by}
use Rattle.py_tasks.proofs.frameworks.read_each.Given as goal

abbrev pub invariant-loop-entry : goal.invariant-loop-entry
invariant-loop-entry g l =
    Gathering (λ m. frameworks_by l.layout m l.entries) 2 (g.P.ProcessMemory.seen l.initial.process)
    (g.P.ProcessMemory.seen l.process) (length l.entries) l.entry-index l.list.items
