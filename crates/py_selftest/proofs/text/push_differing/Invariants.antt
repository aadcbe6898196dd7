use Rattle.std.proofs.Common.{◌≡◌, ◌++◌, drop, map, string_bytes}
use Rattle.py_selftest.specs.Checking.{key_shown}
use Rattle.py_selftest.specs.Text.{differing_text}
use Rattle.py_selftest.proofs.text.push_differing.Given as goal

abbrev pub invariant-loop-key : goal.invariant-loop-key
invariant-loop-key l = string_bytes l.text ++ differing_text (map key_shown (drop l.key-index l.keys))
    ≡ string_bytes l.initial.text ++ differing_text (map key_shown l.keys)
