use Rattle.std.proofs.Common.{◌≡◌, ◌++◌, map, take}
use Rattle.py_records.specs.Keys.{key_of}
use Rattle.py_records.proofs.keys.push_keys.Given as goal

abbrev pub invariant-loop-key : goal.invariant-loop-key
invariant-loop-key l = map key_of l.keys.items ≡ map key_of l.initial.keys.items ++ map key_of (take l.key-index l.more)
