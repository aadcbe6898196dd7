-- Which native frames run Python's frames, by their order: up to 3.10 one call of the interpreter's loop executes one
-- frame (Python/ceval.c, `PyEval_EvalFrameEx` and `_PyEval_EvalFrameDefault`), and no address of it stands on the stack
-- for certain. Where there is one call more than there are frames, the newest has not linked its frame yet, or not any
-- more: an older one is in the middle of a call.
use Rattle.std.specs.Prelude.{ℕ, ◌+◌, nat_eq, Bool, true, false, if◌then◌else◌, List, [], ◌∷◌, count_by}
use Rattle.std.specs.Prelude.{Option, Some, None}

-- without the first one that is
unfoldable pub without_first : List Bool → List Bool
without_first [] = []
without_first (true ∷ others) = false ∷ others
without_first (false ∷ others) = false ∷ without_first others

-- how many native frames are calls of the interpreter's loop
abbrev pub calls_in : List Bool → ℕ
calls_in evals = count_by (λ e. e) evals

-- of native frames that are calls of the interpreter's loop or not, which have a run of so many: nothing where the
-- numbers don't allow it
abbrev pub ordered : List Bool → (runs : ℕ) → Option (List Bool)
ordered evals runs =
    if nat_eq (calls_in evals) runs then Some evals
    else (if nat_eq (calls_in evals) (runs + 1) then Some (without_first evals) else None)
