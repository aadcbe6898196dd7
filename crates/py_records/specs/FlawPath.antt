-- Flaws and names as the code has them.
use Rattle.std.specs.Prelude.{List, ℕ, Bool, not, Option, String, option_map, string_bytes}
use Rattle.std.specs.List.{list_any}
use Rattle.std.specs.declared.alloc.Global.{Global}
use Rattle.py_layout.specs.Flaws.{path}
use Rattle.py_records.specs.declared.flaws.Flaw.{Flaw}
use Rattle.py_records.specs.declared.keys.Key as code
use Rattle.py_records.specs.Keys.{key_of}
use Rattle.py_records.specs.Flaws.{is_key}
use Rattle.py_records.specs.File.{is_other}

-- how a flaw is named
abbrev pub flaw_path : Flaw → List ℕ
flaw_path flaw = path (option_map (λ g. g.now) flaw.group) flaw.name.now

-- whether the name is that of no key
abbrev pub is_unknown_name : List code.Key → Option (List ℕ) → String Global → Bool
is_unknown_name keys group name = not (list_any (λ key. is_key group (string_bytes name) (key_of key)) keys)

-- a flaw with the number of its table
abbrev pub numbered : ℕ × Flaw → ℕ × List ℕ
numbered found = (found.0, flaw_path found.1)

-- whether the name is not `records`
abbrev pub is_other_name : String Global → Bool
is_other_name name = is_other (string_bytes name)
