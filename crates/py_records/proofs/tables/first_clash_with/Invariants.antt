use Rattle.std.specs.List.{AllWithin}
use Rattle.py_records.specs.Table.{Clash}
use Rattle.py_records.proofs.tables.first_clash_with.Given as goal

abbrev pub invariant-loop-place : goal.invariant-loop-place
invariant-loop-place l = AllWithin (λ other. ¬ Clash l.table other) l.list l.start l.place
