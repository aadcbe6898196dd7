use Rattle.std.proofs.Common.{◌≡◌, map, take}
use Rattle.serde_json.specs.View.{view}
use Rattle.exception_texts.specs.Trees.{repr_tree}
use Rattle.exception_texts.proofs.tree.reprs_value.Given as goal

abbrev pub invariant-loop-value : goal.invariant-loop-value
invariant-loop-value l = map view l.own.items ≡ map (λ x. repr_tree x) (take l.value-index l.values)
