-- How a thread's state and its id are shown.
use Rattle.std.specs.Prelude.{ℕ, ◌++◌, Bool, true, false, Option, Some, None, List, codes, decimal}
use Rattle.std.specs.Fmt.{digits}

-- a thread's state: whether it ran, and whether it held the interpreter lock
abbrev pub status_text : Bool → Bool → List ℕ
status_text false held = codes "idle"
status_text true false = codes "active"
status_text true true = codes "active+gil"

-- the id that the system gave in decimal, where there is one, else the interpreter's in upper-case hexadecimal
abbrev pub id_text : Option ℕ → ℕ → List ℕ
id_text (Some os) id = decimal os
id_text None id = codes "0x" ++ digits 16 true id
