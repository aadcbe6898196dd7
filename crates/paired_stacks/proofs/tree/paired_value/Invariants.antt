use Rattle.std.proofs.Common.{◌≡◌, map, take}
use Rattle.serde_json.specs.View.{view}
use Rattle.paired_stacks.specs.Trees.{stack_tree_if}
use Rattle.paired_stacks.proofs.tree.paired_value.Given as goal

abbrev pub invariant-loop-stack : goal.invariant-loop-stack
invariant-loop-stack l = map view l.values.items ≡ map (λ x. stack_tree_if x) (take l.stack-index l.stacks)
