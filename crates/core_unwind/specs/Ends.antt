-- How a stack ends where a file has no table.
use Rattle.std.specs.Prelude.{ℕ}
use Rattle.frame_tables.specs.declared.flaw.TableError.{TableError}
use Rattle.frame_tables.specs.declared.flaw.TableError.TheVariants as flaw
use Rattle.core_unwind.specs.declared.end.End.{End}
use Rattle.core_unwind.specs.declared.end.End.TheVariants.{NoTable, Refused}
use Rattle.core_unwind.specs.declared.end.Refusal.TheVariants.{Table}

-- how a stack ends where no table can be opened: without a table where the file has none, else it is refused
abbrev pub table_end : TableError → (at : ℕ) → End
table_end flaw.NoHeader at = NoTable at
table_end error at = Refused (Table error)
