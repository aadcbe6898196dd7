use Rattle.std.proofs.Common.{◌≡◌, ◌++◌, drop}
use Rattle.toml.specs.View.{items_view}
use Rattle.py_records.specs.File.{tables_in}
use Rattle.py_records.proofs.file.tables_in.Given as goal

abbrev pub invariant-loop-value : goal.invariant-loop-value
invariant-loop-value l = l.tables.items ++ tables_in (items_view (drop l.value-index l.list)) ≡ tables_in
    (items_view l.list)
