-- Lengths that are refused before what they count is read.
use Rattle.std.specs.Prelude.{◌≡◌, Result, Ok, Err}
use Rattle.process_memory.specs.Memory.{Memory, Found}
use Rattle.process_memory.specs.Memory.Fault.{TooLong as IsTooLong}
use Rattle.process_memory.specs.Seen.{Seen, Reading}
use Rattle.py_builtins.specs.declared.error.ObjectError.{ObjectError}
use Rattle.py_builtins.specs.declared.error.ObjectError.TheVariants.{TooLong, Unreadable, NoText, BadDict, BadType}
use Rattle.py_builtins.specs.declared.error.ObjectError.TheVariants.{Visits, Depth, BadCount, BadBool, OutOfMemory}

-- where a length is refused, one read at most was made, of a record that says it
abbrev pub RefusesEarly : {T U : Type 0} → Seen → Seen → (Memory → Found U) → Result T ObjectError → Type 0
RefusesEarly old new definition (Ok x) = Unit {0}
RefusesEarly old new definition (Err (TooLong n)) = Reading 1 old new (λ m. definition m ≡ Err (IsTooLong n))
RefusesEarly old new definition (Err (Unreadable a n)) = Unit {0}
RefusesEarly old new definition (Err NoText) = Unit {0}
RefusesEarly old new definition (Err BadDict) = Unit {0}
RefusesEarly old new definition (Err BadType) = Unit {0}
RefusesEarly old new definition (Err Visits) = Unit {0}
RefusesEarly old new definition (Err Depth) = Unit {0}
RefusesEarly old new definition (Err (BadCount n)) = Unit {0}
RefusesEarly old new definition (Err (BadBool b)) = Unit {0}
RefusesEarly old new definition (Err OutOfMemory) = Unit {0}
