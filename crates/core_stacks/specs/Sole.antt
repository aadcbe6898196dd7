-- Answers of which one is right.
use Rattle.std.specs.Prelude.{◌≡◌, Result, Err}
use Rattle.elf64_core.specs.Outcomes.{IsUnless}
use Rattle.py_process.specs.declared.core_error.CoreError.{CoreError}
use Rattle.py_process.specs.declared.core_error.CoreError.TheVariants.{OutOfMemory}

-- a right answer is the answer, out of memory aside
abbrev pub IsSole : {T : Type 0} → (Result T CoreError → Type 0) → Result T CoreError → Type 0
IsSole Right result = (answer : _) → Right answer → ¬ (answer ≡ Err OutOfMemory)
    → IsUnless OutOfMemory answer result

-- the answer is right, and the one right answer, out of memory aside
pub record Settles {T : Type 0} (Right : Result T CoreError → Type 0) (result : Result T CoreError) : Type 0 where
  pub right : Right result
  pub only : IsSole Right result
