-- Why something is not told, by the fault of what was read. That what is lost costs what it breaks is this project's
-- rule.
use Rattle.std.specs.Prelude.{◌≡◌, Option, Some, None, Result, Ok, Err}
use Rattle.process_memory.specs.Memory.{Fault, Found}
use Rattle.process_memory.specs.Memory.{Fault as fault}
use Rattle.py_names.specs.NamesError.{names_fault}
use Rattle.py_names.specs.declared.names_error.NamesError.{NamesError}
use Rattle.py_names.specs.declared.names_error.NamesError.TheVariants.{OutOfMemory}
use Rattle.py_tasks.specs.declared.fault.TasksFault.{TasksFault}
use Rattle.py_tasks.specs.declared.fault.TasksFault.TheVariants.{Unreadable, TooMany, Malformed}

-- why something is lost: what is missing in memory, too many entries, or malformed records
abbrev pub lost_by : Fault → TasksFault
lost_by (fault.Missing addr len) = Unreadable addr len
lost_by fault.Entries = TooMany
lost_by _ = Malformed

-- an error as what is told, and out of memory as an error
abbrev pub IsLostBy : Option Fault → Result TasksFault NamesError → Type 0
IsLostBy None result = result ≡ Err OutOfMemory
IsLostBy (Some f) result = result ≡ Ok (lost_by f)

-- what was found, or none
abbrev pub found_or_none : {T : Type 0} → Found (Option T) → Option T
found_or_none (Ok x) = x
found_or_none (Err f) = None

-- none where something can't be read, and out of memory as an error
abbrev pub NoneBy : {T : Type 0} → Option Fault → Result (Option T) NamesError → Type 0
NoneBy None result = result ≡ Err OutOfMemory
NoneBy (Some f) result = result ≡ Ok None

-- a reader's result is what another one read, and none where that failed; out of memory is handed on
abbrev pub IsOrNone : {T : Type 0} → Result (Option T) NamesError → Result (Option T) NamesError → Type 0
IsOrNone (Ok x) result = result ≡ Ok x
IsOrNone (Err e) result = NoneBy (names_fault e) result
