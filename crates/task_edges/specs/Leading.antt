-- What leads to an object: what completes it, and what completes that, and so on, up to the first tasks. That a task is
-- not looked behind is this project's rule: what waits for a task waits for what that waits for, which is said of it.
use Rattle.std.specs.Prelude.{◌≡◌, ◌≢◌, ℕ, ◌↔◌, ◌⊎◌, ◌<◌, Option, Some, None, List, [], ◌∷◌, ◌++◌, length}
use Rattle.std.specs.Prelude.{if◌then◌else◌, nat_eq}
use Rattle.std.specs.BTreeSet.{BTreeSet}
use Rattle.std.specs.List.{All, AllPairs, Contains, list_any}

-- what leads to an object directly: what completes it, and nothing to a task
abbrev pub before : (ℕ → List ℕ) → List ℕ → ℕ → List ℕ
before sources tasks b = if list_any (nat_eq b) tasks then [] else sources b

-- each of the list `a ∷ via` leads to the next one directly, and the last of them is `b`
abbrev pub Leads : (ℕ → List ℕ) → ℕ → List ℕ → ℕ → Type 0
Leads direct a [] b = a ≡ b
Leads direct a (next ∷ via) b = Contains (direct next) a × Leads direct next via b

-- an edge, or several one after the other, lead from one to the other
abbrev pub LeadsTo : (ℕ → List ℕ) → ℕ → ℕ → Type 0
LeadsTo direct a b = (via : List ℕ) × Leads direct a via b

-- so many distinct objects lead to one, and more
pub record Passes (direct : ℕ → List ℕ) (limit target : ℕ) : Type 0 where
  pub list : List ℕ
  pub distinct : AllPairs (λ x y. x ≢ y) list
  pub leads : All (λ a. LeadsTo direct a target) list
  pub more : limit < length list

-- ---- a search

-- the addresses of a list come in that were not there
pub record AddsTo (old addresses new : List ℕ) : Type 0 where
  pub rest : List ℕ
  pub front : new ≡ old ++ rest
  pub same : (a : ℕ) → Contains new a ↔ (Contains old a ⊎ Contains addresses a)
  pub distinct : AllPairs (λ x y. x ≢ y) old → AllPairs (λ x y. x ≢ y) new

-- what leads to an object directly comes in
abbrev pub Expands : (ℕ → List ℕ) → List ℕ → ℕ → List ℕ → List ℕ → Type 0
Expands sources tasks at old new = AddsTo old (before sources tasks at) new

-- the tasks that were found, where they are not too many
abbrev pub keys_found : Option (BTreeSet ℕ) → Option (List ℕ)
keys_found None = None
keys_found (Some s) = Some s.keys

-- exactly the objects that lead to one, which are no more than so many; or there are more
abbrev pub FindsBy : (ℕ → List ℕ) → ℕ → ℕ → Option (List ℕ) → Type 0
FindsBy direct limit target None = Passes direct limit target
FindsBy direct limit target (Some list) =
    ((a : ℕ) → Contains list a ↔ LeadsTo direct a target) × (Passes direct limit target → ⊥)

-- the tasks that lead to a target; none where they are more than a limit
abbrev pub Finds : (ℕ → List ℕ) → List ℕ → ℕ → ℕ → Option (List ℕ) → Type 0
Finds sources tasks limit target found = FindsBy (before sources tasks) limit target found
