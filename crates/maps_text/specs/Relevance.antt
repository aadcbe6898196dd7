-- The entries that matter for addresses.
use Rattle.std.specs.Prelude.{◌≡◌, ◌⊎◌, ◌||◌, Bool, true, false, List, [], ◌∷◌, Option, None, Result, Ok, Err}
use Rattle.std.specs.Prelude.{IsSomeAnd}
use Rattle.elf64_core.specs.Outcomes.{IsUnless}
use Rattle.maps_text.specs.declared.entry.MapsEntry.{MapsEntry}
use Rattle.maps_text.specs.declared.error.MapsError.{MapsError}
use Rattle.maps_text.specs.declared.error.MapsError.TheVariants.{OutOfMemory}
use Rattle.maps_text.specs.Perms.{has_bits}

-- the map may be read or executed
abbrev pub is_relevant : MapsEntry → Bool
is_relevant entry = has_bits entry.perm.0 4 || has_bits entry.perm.0 1

-- a relevant entry, or an error
abbrev pub is_relevant_line : Result MapsEntry MapsError → Bool
is_relevant_line (Ok entry) = is_relevant entry
is_relevant_line (Err error) = true

-- an answer came for a line and is kept; `right` is the line's right answer
abbrev pub KeptFor : Result MapsEntry MapsError → Option (Result MapsEntry MapsError) → Type 0
KeptFor right item = IsSomeAnd item (λ result. IsUnless OutOfMemory right result × (is_relevant_line result ≡ true))

-- Of lines with these right answers, the first that was kept came, and some lines are left behind it; or none
-- was kept, and none is left
abbrev pub KeptFirst : List (Result MapsEntry MapsError) → Option (Result MapsEntry MapsError)
    → List (Result MapsEntry MapsError) → Type 0
KeptFirst [] item left = (item ≡ None) × (left ≡ [])
KeptFirst (right ∷ others) item left =
    (KeptFor right item × (left ≡ others)) ⊎ ((is_relevant_line right ≡ false) × KeptFirst others item left)
