-- Which of the faults that a reader may meet, in order, it answers.
use Rattle.std.specs.Prelude.{◌≡◌, Option, Some, None, List, [], ◌∷◌, Result, Ok, Err, ⊤}
use Rattle.process_memory.specs.Memory.{Found, Fault}

-- the fault of one step, or those of what follows it
abbrev pub faults_then : {T : Type 0} → Found T → (T → List Fault) → List Fault
faults_then (Ok x) g = g x
faults_then (Err f) g = f ∷ []

-- a fault that is told is the first one
abbrev pub IsFirst : Option Fault → Option Fault → Type 0
IsFirst first None = ⊤
IsFirst first (Some f) = first ≡ Some f

-- Ok exactly where there is no fault, and else the first one; out of memory is free
abbrev pub FaultsAre : {T E : Type 0} → (E → Option Fault) → Option Fault → Result T E → Type 0
FaultsAre fault first (Ok x) = first ≡ None
FaultsAre fault first (Err e) = IsFirst first (fault e)
