use Rattle.std.proofs.Common.{◌≡◌, ◌++◌, map}
use Rattle.serde_json.specs.View.{view}
use Rattle.repr_json.specs.Trees.{pair_trees}
use Rattle.repr_json.proofs.value.pairs_of.Given as goal

abbrev pub invariant-loop-key : goal.invariant-loop-key
invariant-loop-key l = map view l.pairs.items
    ++ pair_trees (map view l.key-iterator.rest.items) (map view l.left.rest.items)
    ≡ pair_trees (map view l.fn.keys.items) (map view l.fn.values.items)
