use Rattle.std.proofs.Common.{◌≡◌, map, take}
use Rattle.serde_json.specs.View.{view}
use Rattle.task_texts.specs.Trees.{member_tree}
use Rattle.task_texts.proofs.tree.members_value.Given as goal

abbrev pub invariant-loop-member : goal.invariant-loop-member
invariant-loop-member l = map view l.values.items ≡ map (λ x. member_tree x) (take l.member-index l.members)
