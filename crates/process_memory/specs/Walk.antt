-- Chains of records, each of which names the next, and walks along them.
use Rattle.std.specs.Prelude.{◌≡◌, ◌≢◌, ℕ, zero, suc, ◌+◌, ◌-◌, ◌≤◌, Option, Some, None, List, [], ◌∷◌, ◌++◌, Ok, Err}
use Rattle.std.specs.Prelude.{IsOkAnd}
use Rattle.process_memory.specs.Memory.{Memory, Found, Fault, ◌>>=◌, byte_at}
use Rattle.process_memory.specs.Seen.{Seen, ReadingOf}
use Rattle.process_memory.specs.declared.memory.Span.{Span}

-- a chain to null: from `head` on each member of the list leads to the one after it, and the last leads to 0.
-- There is neither a counter nor a limit in it
unfoldable pub IsChain : (ℕ → Found ℕ) → ℕ → List ℕ → Type 0
IsChain next head [] = head ≡ 0
IsChain next head (x ∷ xs) = (head ≢ 0) × (x ≡ head) × IsOkAnd (next x) (λ n. IsChain next n xs)

-- what a walk reads at one member: where it goes on, in which state, and the member's part
pub record Step (S T : Type 0) : Type 0 where
  pub next : ℕ
  pub state : S
  pub part : T

-- the parts of all members of a chain of at most `limit` members, to null; else the first fault
unfoldable pub walk_at : {S T : Type 0} → Fault → (S → ℕ → Found (Step S T)) → ℕ → S → ℕ → Found (List T)
walk_at over step limit state zero = Ok []
walk_at over step zero state (suc a) = Err over
walk_at over step (suc limit) state (suc a) = do
  x ← step state (suc a)
  parts ← walk_at over step limit x.state x.next
  Ok (x.part ∷ parts)

-- what the rest of a walk costs, where this step can be taken
abbrev pub cost_next : {S T : Type 0} → Found (Step S T) → (S → ℕ → ℕ) → ℕ
cost_next (Ok x) f = f x.state x.next
cost_next (Err e) f = 0

-- the sum of what each member costs that the walk meets
unfoldable pub walk_cost : {S T : Type 0} → (S → ℕ → Found (Step S T)) → (S → ℕ → ℕ) → ℕ → S → ℕ → ℕ
walk_cost step cost limit state zero = 0
walk_cost step cost zero state (suc a) = 0
walk_cost step cost (suc limit) state (suc a) =
    cost state (suc a) + cost_next (step state (suc a)) (λ s n. walk_cost step cost limit s n)

-- a list before what is found behind it
abbrev pub after_all : {T : Type 0} → List T → Found (List T) → Found (List T)
after_all xs (Ok ys) = Ok (xs ++ ys)
after_all xs (Err f) = Err f

-- a walk that has read `parts` at `met` members by ranges that are allowed, and stands at `at` in a state
pub record Walking {S T : Type 0} (allowed : Memory → Span → Type 0) (over : Fault)
    (step : Memory → S → ℕ → Found (Step S T)) (cost : Memory → S → ℕ → ℕ) (limit : ℕ) (start : S) (head : ℕ)
    (old new : Seen) (parts : List T) (met : ℕ)
    (state : S) (at : ℕ) : Type 0 where
  pub spent : ℕ
  pub within : met ≤ limit
  pub reading : ReadingOf allowed spent old new (λ m. walk_at over (step m) limit start head
      ≡ after_all parts (walk_at over (step m) (limit - met) state at))
  pub budget : spent + walk_cost (step (byte_at old.pieces)) (cost (byte_at old.pieces)) (limit - met) state at
      ≡ walk_cost (step (byte_at old.pieces)) (cost (byte_at old.pieces)) limit start head

-- the faults of the rest of a walk, where it goes on
abbrev pub goes_on : {S : Type 0} → Found (ℕ × S) → (S → ℕ → List Fault) → List Fault
goes_on (Ok x) f = f x.1 x.0
goes_on (Err e) f = []

-- the faults of a walk, in order: those of each member that it meets, and last the limit
unfoldable pub walk_faults : {S : Type 0} → Fault → (S → ℕ → Found (ℕ × S)) → (S → ℕ → List Fault) → ℕ → S → ℕ
    → List Fault
walk_faults over go faults limit state zero = []
walk_faults over go faults zero state (suc a) = over ∷ []
walk_faults over go faults (suc limit) state (suc a) = faults state (suc a)
    ++ goes_on (go state (suc a)) (λ s n. walk_faults over go faults limit s n)

-- the first of some faults
abbrev pub first_fault : List Fault → Option Fault
first_fault [] = None
first_fault (f ∷ fs) = Some f

-- the first fault where there is one, else the second
abbrev pub or_else : Option Fault → Option Fault → Option Fault
or_else None o = o
or_else (Some f) o = Some f

-- the fault of what wasn't found
abbrev pub fault_in : {T : Type 0} → Found T → Option Fault
fault_in (Ok x) = None
fault_in (Err f) = Some f
