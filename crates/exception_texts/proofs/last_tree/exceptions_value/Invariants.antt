use Rattle.std.proofs.Common.{◌≡◌, map, take}
use Rattle.serde_json.specs.View.{view}
use Rattle.exception_texts.specs.LastTrees.{interpreter_tree}
use Rattle.exception_texts.proofs.last_tree.exceptions_value.Given as goal

abbrev pub invariant-loop-interpreter : goal.invariant-loop-interpreter
invariant-loop-interpreter l = map view l.own.items ≡ map (λ x. interpreter_tree x) (take l.interpreter-index l.exceptions)
