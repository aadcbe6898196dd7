use Rattle.std.specs.List.{AllWithin}
use Rattle.py_records.specs.Table.{IsSoundTable}
use Rattle.py_records.proofs.tables.first_unsound.Given as goal

abbrev pub invariant-loop-place : goal.invariant-loop-place
invariant-loop-place l = AllWithin IsSoundTable l.list 0 l.place
