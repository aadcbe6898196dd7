use Rattle.std.proofs.Common.{◌≡◌, ◌++◌, drop, map}
use Rattle.serde_json.specs.View.{view}
use Rattle.py_selftest.specs.Checking.{key_shown}
use Rattle.py_selftest.specs.Trees.{listed_from}
use Rattle.py_selftest.proofs.tree.list_value.Given as goal

abbrev pub invariant-loop-key : goal.invariant-loop-key
invariant-loop-key l = map view l.values.items ++ listed_from l.listed (map key_shown (drop l.key-index l.keys))
    ≡ listed_from l.listed (map key_shown l.keys)
