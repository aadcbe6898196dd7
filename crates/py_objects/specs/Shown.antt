-- What is shown while visits are counted.
use Rattle.std.specs.Prelude.{◌≡◌, ℕ, ◌+◌, ◌≤◌, nat_lt, Option, Some, None, Result, Ok, Err, if◌then◌else◌}
use Rattle.process_memory.specs.Memory.{Found, Fault}
use Rattle.process_memory.specs.Memory.Fault.{Visits}
use Rattle.process_memory.specs.Seen.{AnswerIs}

-- a value or a fault, and how many visits are counted after it, from how many were counted before it
abbrev pub Shown : Type 0 → Type 0
Shown T = ℕ → Found T × ℕ

-- goes on with a value and the visits so far; a fault ends it
abbrev pub goes_on_shown : {T U : Type 0} → Found T × ℕ → (T → Shown U) → Found U × ℕ
goes_on_shown (Ok x, v) f = f x v
goes_on_shown (Err e, v) f = (Err e, v)

-- goes on with a value, or stops at a fault
infixl 10 ◌>>=◌
unfoldable pub ◌>>=◌ : {T U : Type 0} → Shown T → (T → Shown U) → Shown U
c >>= f = λ v. goes_on_shown (c v) f

-- a value, with nothing counted
abbrev pub give : {T : Type 0} → T → Shown T
give x = λ v. (Ok x, v)

-- what is found, with nothing counted
abbrev pub consult : {T : Type 0} → Found T → Shown T
consult d = λ v. (d, v)

-- one more visit, of which there are at most 4096
unfoldable pub visit : Shown (Unit {0})
visit = λ v. if nat_lt v 4096 then (Ok tt, v + 1) else (Err Visits, v)

-- the visits that are told: all at a fault, and at most all where memory is lacking
abbrev pub CountOf : Option Fault → ℕ → ℕ → Type 0
CountOf None v n = n ≤ v
CountOf (Some f) v n = n ≡ v

-- the visits that a result tells: all of them, but where memory is lacking
abbrev pub CountIs : {T E : Type 0} → (E → Option Fault) → Result T E → ℕ → ℕ → Type 0
CountIs fault (Ok x) v n = n ≡ v
CountIs fault (Err e) v n = CountOf (fault e) v n

-- a result and a count are what the definition says. Out of memory is free, and leaves a part of the count
pub record TellsShown {T E : Type 0} (fault : E → Option Fault) (definition : Found T × ℕ) (result : Result T E)
    (visits : ℕ) : Type 0 where
  pub answer : AnswerIs fault definition.0 result
  pub count : CountIs fault result definition.1 visits
