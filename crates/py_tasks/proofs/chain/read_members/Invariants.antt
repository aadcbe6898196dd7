use Rattle.std.proofs.Common.{length}
use Rattle.task_sets.proofs.Gathering.{Gathering}
use Rattle.py_tasks.specs.Chains.{members_of}
use Rattle.py_tasks.proofs.chain.read_members.Given as goal

abbrev pub invariant-loop-address : goal.invariant-loop-address
invariant-loop-address g l =
    Gathering (λ m. members_of l.layout l.places m l.addresses) 10 (g.P.ProcessMemory.seen l.initial.process)
    (g.P.ProcessMemory.seen l.process) (length l.addresses) l.address-index l.members.items
