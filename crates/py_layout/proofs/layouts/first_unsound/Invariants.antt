use Rattle.std.specs.List.{AllWithin}
use Rattle.py_fields.specs.Sound.{IsSound}
use Rattle.py_layout.proofs.layouts.first_unsound.Given as goal

abbrev pub invariant-loop-table : goal.invariant-loop-table
invariant-loop-table l = AllWithin IsSound l.list 0 l.table
