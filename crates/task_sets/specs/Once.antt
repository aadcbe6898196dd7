-- Each of some addresses once.
use Rattle.std.specs.Prelude.{ℕ, List, [], ◌∷◌, ◌++◌, if◌then◌else◌}
use Rattle.py_coroutines.specs.Awaits.{has}

-- those that were not met before, each once, in the order of its first place
unfoldable pub firsts : List ℕ → List ℕ → List ℕ
firsts met [] = []
firsts met (x ∷ xs) = if has met x then firsts met xs else x ∷ firsts (met ++ x ∷ []) xs
