-- What calls come to: the first of several causes, and an answer that only out of memory may take the place of.
-- This project's own rule.
use Rattle.std.specs.Prelude.{◌≡◌, ◌⊎◌, Bool, if◌then◌else◌, List, [], ◌∷◌, Option, Some, None, Result, Err}

-- the first cause that is so; each stands with whether it is
abbrev pub first_cause : {E : Type 0} → List (Bool × E) → Option E
first_cause [] = None
first_cause (cause ∷ others) = if cause.0 then Some cause.1 else first_cause others

-- the result is this answer, or the out of memory
abbrev pub IsUnless : {T E : Type 0} → E → Result T E → Result T E → Type 0
IsUnless lost answer result = (result ≡ answer) ⊎ (result ≡ Err lost)
