use Rattle.std.proofs.Common.{◌≡◌, map, take}
use Rattle.serde_json.specs.View.{view}
use Rattle.paired_stacks.specs.Trees.{item_tree}
use Rattle.paired_stacks.proofs.tree.items_value.Given as goal

abbrev pub invariant-loop-item : goal.invariant-loop-item
invariant-loop-item l = map view l.values.items ≡ map (λ x. item_tree l.hidden x) (take l.item-index l.items)
