-- The faults that errors of names name.
use Rattle.std.specs.Prelude.{◌≡◌, ◌≢◌, Option, Some, None}
use Rattle.process_memory.specs.Memory.{Fault}
use Rattle.process_memory.specs.Memory.Fault.{NoDicts as HasNoDicts, Entries as ManyEntries}
use Rattle.py_builtins.specs.ObjectError.{object_fault}
use Rattle.py_builtins.specs.declared.error.ObjectError.TheVariants.{OutOfMemory as HasNoMemory}
use Rattle.py_names.specs.declared.names_error.NamesError.{NamesError}
use Rattle.py_names.specs.declared.names_error.NamesError.TheVariants.{NoDicts, Entries, Object, OutOfMemory}

-- the fault that an error names; out of memory names none
abbrev pub names_fault : NamesError → Option Fault
names_fault NoDicts = Some HasNoDicts
names_fault Entries = Some ManyEntries
names_fault (Object e) = object_fault e
names_fault OutOfMemory = None

-- the error of a fault, or of out of memory, which has a variant of its own
abbrev pub TellsName : NamesError → Option Fault → Type 0
TellsName e fault = (names_fault e ≡ fault) × (e ≢ Object HasNoMemory)
