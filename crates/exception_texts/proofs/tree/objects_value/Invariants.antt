use Rattle.std.proofs.Common.{◌≡◌, map}
use Rattle.serde_json.specs.View.{view}
use Rattle.exception_texts.specs.Trees.{first_trees}
use Rattle.exception_texts.proofs.tree.objects_value.Given as goal

abbrev pub invariant-loop-number : goal.invariant-loop-number
invariant-loop-number l = map view l.own.items ≡ first_trees l.told l.number
