use Rattle.std.proofs.Common.{◌≡◌, map, take}
use Rattle.serde_json.specs.View.{view}
use Rattle.heap_texts.specs.Trees.{interpreter_tree}
use Rattle.heap_texts.proofs.tree.interpreters_value.Given as goal

abbrev pub invariant-loop-heap : goal.invariant-loop-heap
invariant-loop-heap l = map view l.values.items ≡ map (λ x. interpreter_tree x) (take l.heap-index l.heaps)
