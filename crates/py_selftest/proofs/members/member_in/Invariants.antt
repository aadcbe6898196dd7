use Rattle.py_selftest.proofs.Seeking.{Seeking}
use Rattle.py_selftest.proofs.members.member_in.Given as goal

abbrev pub invariant-loop-number : goal.invariant-loop-number
invariant-loop-number g l = Seeking l.name l.table (g.P.ProcessMemory.seen l.initial.process)
    (g.P.ProcessMemory.seen l.process) l.number
