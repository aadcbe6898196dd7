use Rattle.std.proofs.Common.{◌+◌, ◌*◌, map}
use Rattle.py_reprs.specs.Trees.{tree_of}
use Rattle.py_reprs.specs.Values.{placed, repr_at, value_cost}
use Rattle.py_reprs.proofs.Mapping.{Mapping}
use Rattle.py_reprs.proofs.values.+value.Given as goal

abbrev pub decreases-read_value : goal.decreases-read_value
decreases-read_value g l = 4 * l.levels

abbrev pub decreases-read_placed : goal.decreases-read_placed
decreases-read_placed g l = 4 * l.levels + 1

abbrev pub decreases-read_all : goal.decreases-read_all
decreases-read_all g l = 4 * l.levels + 2

abbrev pub decreases-read_opened : goal.decreases-read_opened
decreases-read_opened g l = 4 * l.levels + 3

abbrev pub invariant-read_all-loop-number : goal.invariant-read_all-loop-number
invariant-read_all-loop-number g l =
    Mapping (λ m. placed (λ s x. repr_at l.layout l.types l.limits m l.levels s x) l.share) (value_cost l.limits l.share)
    (g.P.ProcessMemory.seen l.initial.process) (g.P.ProcessMemory.seen l.process) l.places l.number
    (map tree_of l.values.items)
