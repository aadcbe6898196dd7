use Rattle.std.proofs.Common.{◌≡◌, ◌≤◌, ◌+◌, drop, map}
use Rattle.py_selftest.specs.Checking.{key_shown}
use Rattle.py_selftest.specs.Text.{count_told}
use Rattle.py_selftest.proofs.text.count_told.Given as goal

abbrev pub invariant-loop-key : goal.invariant-loop-key
invariant-loop-key l = (l.count ≤ l.key-index)
    × (l.count + count_told l.told (map key_shown (drop l.key-index l.keys)) ≡ count_told l.told (map key_shown l.keys))
