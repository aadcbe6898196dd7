use Rattle.std.proofs.Common.{◌≡◌, map, take}
use Rattle.serde_json.specs.View.{view}
use Rattle.thread_names.specs.Trees.{interpreter_tree}
use Rattle.thread_names.proofs.tree.names_value.Given as goal

abbrev pub invariant-loop-interpreter : goal.invariant-loop-interpreter
invariant-loop-interpreter l = map view l.values.items ≡ map (λ x. interpreter_tree x) (take l.interpreter-index l.names)
