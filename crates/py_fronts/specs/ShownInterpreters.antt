-- Which interpreters are shown, in the subject's own words.
use Rattle.std.specs.Prelude.{◌≡◌, ◌≢◌, ℕ, ◌≤◌, ◌⊎◌, Bool, true, false, All, Contains, List, [], ◌∷◌, length, Ok, ⊤}
use Rattle.process_memory.specs.Memory.{Memory}
use Rattle.py_fields.specs.declared.version.Version.{Version}
use Rattle.py_fields.specs.declared.layout.Layout.{Layout}
use Rattle.py_stacks.specs.Interpreter.{interpreter_named_by, threads_head}
use Rattle.py_process.specs.Facts.{Known}
use Rattle.py_fronts.specs.Candidates.{named_candidates, record_candidates, searched_candidates}
use Rattle.py_fronts.specs.declared.interpreters.FoundInterpreter.{FoundInterpreter}
use Rattle.py_fronts.specs.Front.Ending.{Whole}
use Rattle.py_fronts.specs.Interpreters.{Finds, interpreter_limit, is_found}
use Rattle.py_fronts.specs.ThreadFronts.{threads_front}

-- an interpreter and its first thread: a map holds each of them, and each names the other
pub record IsHeaded (contains : ℕ → Bool) (l : Layout) (m : Memory) (a head : ℕ) : Type 0 where
  pub lies : contains a ≡ true
  pub names : threads_head l m a ≡ Ok head
  pub some : head ≢ 0
  pub head_lies : contains head ≡ true
  pub named : interpreter_named_by l m head ≡ Ok a

-- one that is shown; where it was found by search alone, its chain of threads is whole
pub record IsShown (contains : ℕ → Bool) (l : Layout) (m : Memory) (one : FoundInterpreter) : Type 0 where
  pub headed : IsHeaded contains l m one.address one.head
  pub whole : one.searched ≡ true → (threads_front l one.address m one.head).ending ≡ Whole

-- each address stands there once
abbrev pub EachOnce : List FoundInterpreter → Type 0
EachOnce [] = ⊤
EachOnce (one ∷ rest) = (is_found rest one.address ≡ false) × EachOnce rest

-- each of those that were found is shown rightly, once, and there are at most 16
pub record AreShown (contains : ℕ → Bool) (l : Layout) (m : Memory) (r : Finds) : Type 0 where
  pub each : All (IsShown contains l m) r.found
  pub once : EachOnce r.found
  pub few : length r.found ≤ interpreter_limit

-- an address was found, if it is an interpreter's; for one that is found by search alone, if its threads are whole too
abbrev pub IsTaken : (ℕ → Bool) → Layout → Memory → Finds → ℕ → Type 0
IsTaken contains l m r a = (head : ℕ) → IsHeaded contains l m a head → is_found r.found a ≡ true

-- an address was found, if it is an interpreter's and the chain of its threads is whole
abbrev pub IsTakenWhole : (ℕ → Bool) → Layout → Memory → Finds → ℕ → Type 0
IsTakenWhole contains l m r a = (head : ℕ) → IsHeaded contains l m a head → (threads_front l a m head).ending ≡ Whole
    → is_found r.found a ≡ true

-- none is left out of the addresses that are named, and of those that the record of one that is shown leads to
pub record AreAllNamed (contains : ℕ → Bool) (k : Known) (v : Version) (l : Layout) (m : Memory)
    (r : Finds) : Type 0 where
  pub named : All (IsTaken contains l m r) (named_candidates k v l m)
  pub recorded : All (λ (one : FoundInterpreter). All (IsTaken contains l m r) (record_candidates l m one.address))
      r.found

-- nor of those that are found by search alone
abbrev pub AreAllSearched : (ℕ → Bool) → Known → Layout → Memory → Finds → Type 0
AreAllSearched contains k l m r = All (IsTakenWhole contains l m r) (searched_candidates k m)

-- named is the head that symbols give, or else the runtime section; what its record leads to; and what the record of
-- another interpreter that is shown leads to
abbrev pub IsNamed : Known → Version → Layout → Memory → List FoundInterpreter → ℕ → Type 0
IsNamed k v l m found a = Contains (named_candidates k v l m) a
    ⊎ ((one : FoundInterpreter) × Contains found one × (one.address ≢ a)
    × Contains (record_candidates l m one.address) a)

-- one that is shown was found by search alone where nothing names it, and nowhere else
pub record IsMarked (k : Known) (v : Version) (l : Layout) (m : Memory) (found : List FoundInterpreter)
    (one : FoundInterpreter) : Type 0 where
  pub found_by_name : one.searched ≡ false → IsNamed k v l m found one.address
  pub named : IsNamed k v l m found one.address → one.searched ≡ false

-- each that was found is marked as found by search alone exactly where nothing names it
abbrev pub AreMarked : Known → Version → Layout → Memory → Finds → Type 0
AreMarked k v l m r = All (IsMarked k v l m r.found) r.found
