use Rattle.std.proofs.Common.{◌≡◌, map, take}
use Rattle.serde_json.specs.View.{view}
use Rattle.exception_texts.specs.Trees.{item_tree}
use Rattle.exception_texts.proofs.thread_tree.items_value.Given as goal

abbrev pub invariant-loop-item : goal.invariant-loop-item
invariant-loop-item l = map view l.own.items ≡ map (λ x. item_tree x) (take l.item-index l.items)
