use Rattle.std.proofs.Common.{◌≡◌, take, map}
use Rattle.serde_json.specs.View.{view}
use Rattle.core_texts.specs.Tree.{local_tree}
use Rattle.core_texts.proofs.as_json.locals_value.Given as goal

abbrev pub invariant-loop-local : goal.invariant-loop-local
invariant-loop-local l = map view l.values.items ≡ map (λ x. local_tree x) (take l.local-index l.locals)
