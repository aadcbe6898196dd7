use Rattle.py_exceptions.specs.ValueLists.{item_value_at}
use Rattle.py_exceptions.proofs.Listing.{Listing}
use Rattle.py_exceptions.proofs.values.read_values.Given as goal

abbrev pub invariant-loop-number : goal.invariant-loop-number
invariant-loop-number g l =
    Listing (λ m k. item_value_at l.layout m l.items k) 6 (g.P.ProcessMemory.seen l.initial.process)
    (g.P.ProcessMemory.seen l.process) l.count l.number l.values.items
