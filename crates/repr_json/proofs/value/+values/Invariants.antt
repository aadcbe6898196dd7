use Rattle.std.proofs.Common.{◌≡◌, map, take}
use Rattle.serde_json.specs.View.{view}
use Rattle.py_reprs.specs.Trees.{tree_of, trees_of}
use Rattle.repr_json.specs.Trees.{AreJson}
use Rattle.repr_json.proofs.value.+values.Given as goal

abbrev pub invariant-each_value-loop-number : goal.invariant-each_value-loop-number
invariant-each_value-loop-number l =
    AreJson (trees_of (map tree_of (take l.number l.values))) (map view l.own.items)
