use Rattle.std.proofs.Common.{◌≡◌, drop}
use Rattle.toml.specs.View.{table_view}
use Rattle.py_layout.specs.Flaws.{first_some}
use Rattle.py_records.proofs.FlawLists.{group_flaw}
use Rattle.py_records.proofs.flaws.unknown_in_groups.Given as goal

abbrev pub invariant-loop-key : goal.invariant-loop-key
invariant-loop-key l =
    first_some (group_flaw l.keys (table_view l.table)) (drop l.key-index l.keys) ≡ first_some
    (group_flaw l.keys (table_view l.table)) l.keys
