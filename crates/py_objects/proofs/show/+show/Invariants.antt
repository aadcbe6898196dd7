use Rattle.std.proofs.Common.{◌+◌, ◌*◌, string_bytes}
use Rattle.py_objects.specs.Nodes.{brackets_of, parts_place_of, values_in}
use Rattle.py_objects.specs.Shows.{show_at, part_at}
use Rattle.py_builtins.specs.Consulted.{IsConsulted}
use Rattle.py_objects.proofs.Showing.{Showing}
use Rattle.py_objects.proofs.show.+show.Given as goal

abbrev pub decreases-show_value : goal.decreases-show_value
decreases-show_value g l = 5 * l.levels

abbrev pub decreases-show_child : goal.decreases-show_child
decreases-show_child g l = 5 * l.levels + 1

abbrev pub decreases-show_part : goal.decreases-show_part
decreases-show_part g l = 5 * l.levels + 2

abbrev pub decreases-show_parts : goal.decreases-show_parts
decreases-show_parts g l = 5 * l.levels + 3

abbrev pub decreases-show_node : goal.decreases-show_node
decreases-show_node g l = 5 * l.levels + 4

abbrev pub invariant-show_parts-loop-number : goal.invariant-show_parts-loop-number
invariant-show_parts-loop-number g l =
    Showing (IsConsulted l.layout) (λ m k w. part_at (values_in l.layout m) (λ w2 a. show_at (values_in l.layout m) l.levels w2 a) (brackets_of l.parts) (parts_place_of l.parts) k w) (brackets_of l.parts) l.count l.width l.initial.visits
    (g.P.ProcessMemory.seen l.initial.process) (g.P.ProcessMemory.seen l.process) (string_bytes l.text) l.is_first l.number l.rest l.visits
