-- Steps of which each may end with a cause.
use Rattle.std.specs.Prelude.{◌≡◌, ◌⊎◌, Result, Ok, Err}

-- two steps: the cause of the first, or its value and what the rest comes to
abbrev pub Then : {T U E : Type 0} → (Result T E → Type 0) → (T → Result U E → Type 0) → Result U E → Type 0
Then First Rest result =
    ((error : _) × First (Err error) × (result ≡ Err error))
    ⊎ ((value : _) × First (Ok value) × Rest value result)
