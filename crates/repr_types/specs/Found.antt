-- What a symbol names, where it can be read. That a fault costs the one type alone is this project's rule.
use Rattle.std.specs.Prelude.{◌≡◌, ℕ, Option, Some, None, Result, Ok, Err}
use Rattle.process_memory.specs.Memory.{Fault, Found, Memory}
use Rattle.py_fields.specs.declared.layout.Layout.{Layout}
use Rattle.py_builtins.specs.ObjectError.{object_fault}
use Rattle.py_builtins.specs.declared.error.ObjectError.{ObjectError}
use Rattle.py_reprs.specs.declared.error.ReprError.{ReprError}
use Rattle.py_reprs.specs.declared.error.ReprError.TheVariants.{OutOfMemory}
use Rattle.type_places.specs.Classes.{class_address_at}
use Rattle.type_places.specs.Places.{symbol_place_at}
use Rattle.type_places.specs.declared.places.TypePlace.{TypePlace}

-- the address of a type, where it was found
abbrev pub place_address : Option TypePlace → Option ℕ
place_address None = None
place_address (Some place) = Some place.address

-- an address that is found; none for a fault
abbrev pub found_or_none : {T : Type 0} → (T → Option ℕ) → Found T → Option ℕ
found_or_none f (Ok x) = f x
found_or_none f (Err fault) = None

-- the type that a symbol names, if a type stands there
abbrev pub type_named : Layout → Memory → Option ℕ → Option ℕ
type_named l m symbol = found_or_none place_address (symbol_place_at l m symbol)

-- the class of the object that a symbol names
abbrev pub class_named : Layout → Memory → Option ℕ → Option ℕ
class_named l m None = None
class_named l m (Some a) = found_or_none Some (class_address_at l m a)

-- ---- as it is read

-- nothing is found for a fault; an error is out of memory
abbrev pub IsLost : Option Fault → Result (Option ℕ) ReprError → Type 0
IsLost None result = result ≡ Err OutOfMemory
IsLost (Some f) result = result ≡ Ok None

-- the same of an error of reading an object
abbrev pub IsKnown : ObjectError → Result (Option ℕ) ReprError → Type 0
IsKnown e result = IsLost (object_fault e) result

-- what was read, or that nothing was found; out of memory is handed on
abbrev pub FoundIs : {T : Type 0} → (T → Option ℕ) → Result T ObjectError → Result (Option ℕ) ReprError → Type 0
FoundIs f (Ok x) result = result ≡ Ok (f x)
FoundIs f (Err e) result = IsKnown e result
