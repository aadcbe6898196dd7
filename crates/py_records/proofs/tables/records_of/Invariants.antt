use Rattle.std.proofs.Common.{◌≡◌}
use Rattle.py_records.specs.Versions.{records_of}
use Rattle.py_records.proofs.Versioning.{over}
use Rattle.py_records.proofs.tables.records_of.Given as goal

abbrev pub invariant-loop-table : goal.invariant-loop-table
invariant-loop-table l = over l.table-iterator.iter.rest.now l.version l.found ≡ records_of l.list l.version
