-- What is found is of the process: what each of them shows, in the subject's own words.
use Rattle.std.specs.Prelude.{◌≡◌, ℕ, ◌≤◌, Bool, true, All, List, length}
use Rattle.process_memory.specs.Memory.{Memory}
use Rattle.py_fields.specs.declared.layout.Layout.{Layout}
use Rattle.py_fronts.specs.declared.interpreters.FoundInterpreter.{FoundInterpreter}
use Rattle.py_fronts.specs.Interpreters.{Finds, interpreter_limit}
use Rattle.py_fronts.specs.ShownInterpreters.{EachOnce, IsShown}
use Rattle.heap_search.specs.Known.{has_known}

-- it and its first thread name each other, the chain of its threads is whole, and one of them is known; it is marked as
-- found by search
pub record IsOfProcess (contains : ℕ → Bool) (l : Layout) (m : Memory) (pointers : List ℕ) (class : ℕ)
    (one : FoundInterpreter) : Type 0 where
  pub shown : IsShown contains l m one
  pub searched : one.searched ≡ true
  pub known : has_known l m pointers class one.address one.head ≡ true

-- each of them, each once, and 16 at most
pub record AreOfProcess (contains : ℕ → Bool) (l : Layout) (m : Memory) (pointers : List ℕ) (class : ℕ)
    (r : Finds) : Type 0 where
  pub each : All (IsOfProcess contains l m pointers class) r.found
  pub once : EachOnce r.found
  pub few : length r.found ≤ interpreter_limit
