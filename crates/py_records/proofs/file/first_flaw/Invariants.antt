use Rattle.std.proofs.Common.{◌≡◌, map, drop}
use Rattle.toml.specs.View.{items_view}
use Rattle.py_records.specs.Keys.{key_of}
use Rattle.py_records.specs.File.{first_flaw}
use Rattle.py_records.proofs.file.first_flaw.Given as goal

abbrev pub invariant-loop-table : goal.invariant-loop-table
invariant-loop-table l =
    first_flaw (map key_of l.keys) l.table (items_view (drop l.table l.list)) ≡ first_flaw (map key_of l.keys) 0
    (items_view l.list)
