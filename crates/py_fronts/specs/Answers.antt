-- What readers of fronts answer: a value, or out of memory.
use Rattle.std.specs.Prelude.{◌≡◌, Result, Ok, Err}
use Rattle.py_stacks.specs.declared.error.StackError.{StackError}
use Rattle.py_stacks.specs.declared.error.StackError.TheVariants.{OutOfMemory}

-- the value; out of memory may always be answered
abbrev pub IsOrNoMemory : {T : Type 0} → T → Result T StackError → Type 0
IsOrNoMemory value (Ok x) = x ≡ value
IsOrNoMemory value (Err e) = e ≡ OutOfMemory
