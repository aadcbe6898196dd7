use Rattle.py_reprs.specs.Slots.{entry_at}
use Rattle.py_reprs.proofs.Picking.{Picking}
use Rattle.py_reprs.proofs.slots.read_entries.Given as goal

abbrev pub invariant-loop-number : goal.invariant-loop-number
invariant-loop-number g l =
    Picking (λ m k. entry_at m l.cursor.slots k) 2 (g.P.ProcessMemory.seen l.initial.process)
    (g.P.ProcessMemory.seen l.process) l.most l.looked l.number l.found.items
