-- What can't be read costs what it breaks: this project's rule.
use Rattle.std.specs.Prelude.{◌≡◌, Option, Some, None, Result, Ok, Err}
use Rattle.process_memory.specs.Memory.{Fault, Found}
use Rattle.py_names.specs.NamesError.{names_fault}
use Rattle.py_names.specs.declared.names_error.NamesError.{NamesError}
use Rattle.thread_exceptions.specs.declared.error.ExceptionsError.{ExceptionsError}
use Rattle.thread_exceptions.specs.declared.error.ExceptionsError.TheVariants.{OutOfMemory}

-- what is found, where it is
abbrev pub known : {T : Type 0} → Found T → Option T
known (Ok x) = Some x
known (Err f) = None

-- the same of what there may be
abbrev pub found_or_none : {T : Type 0} → Found (Option T) → Option T
found_or_none (Ok x) = x
found_or_none (Err f) = None

-- none where something can't be read, and out of memory as an error
abbrev pub NoneBy : {T : Type 0} → Option Fault → Result (Option T) ExceptionsError → Type 0
NoneBy None result = result ≡ Err OutOfMemory
NoneBy (Some f) result = result ≡ Ok None

-- a reader's result is what another one read, and none where that failed; out of memory is handed on
abbrev pub IsOrNone : {T : Type 0} → Result (Option T) NamesError → Result (Option T) ExceptionsError → Type 0
IsOrNone (Ok x) result = result ≡ Ok x
IsOrNone (Err e) result = NoneBy (names_fault e) result
