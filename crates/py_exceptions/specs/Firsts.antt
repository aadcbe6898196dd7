-- The first of some things that have numbers.
use Rattle.std.specs.Prelude.{ℕ, zero, suc, List, [], ◌∷◌, ◌++◌}

-- those of the numbers from 0 on, so many of them
unfoldable pub firsts : {T : Type 0} → (ℕ → T) → ℕ → List T
firsts f zero = []
firsts f (suc n) = firsts f n ++ f n ∷ []
