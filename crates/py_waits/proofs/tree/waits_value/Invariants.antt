use Rattle.std.proofs.Common.{◌≡◌, map, take}
use Rattle.serde_json.specs.View.{view}
use Rattle.py_waits.specs.Trees.{interpreter_tree}
use Rattle.py_waits.proofs.tree.waits_value.Given as goal

abbrev pub invariant-loop-interpreter : goal.invariant-loop-interpreter
invariant-loop-interpreter l =
    map view l.values.items ≡ map (λ x. interpreter_tree x) (take l.interpreter-index l.waits)
