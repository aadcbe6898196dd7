-- All that some objects lead to, each once, in order of discovery. That an address is told once, and how many there may
-- be, is this project's rule.
use Rattle.std.specs.Prelude.{◌≡◌, ℕ, ◌<◌, ◌↔◌, nat_eq, nat_le, ◌||◌, List, [], ◌∷◌, ◌++◌, length, map, take}
use Rattle.std.specs.Prelude.{if◌then◌else◌}
use Rattle.std.specs.List.{Contains, concat}
use Rattle.thread_exceptions.specs.declared.discovery.Met as read
use Rattle.thread_exceptions.specs.Exceptions.{What, leads, what_of}
use Rattle.thread_exceptions.specs.Links.{has}

-- an object that was met, and what it is
pub record Met : Type 0 where
  pub addr : ℕ
  pub what : What

-- objects that were met, in order
abbrev pub Mets : Type 0
Mets = List Met

-- one more address, unless it is 0, is there, or no more may be there
abbrev pub add_one : ℕ → List ℕ → ℕ → List ℕ
add_one limit found a = if nat_eq a 0 || nat_le limit (length found) || has found a then found else found ++ a ∷ []

-- the same of each of some addresses
unfoldable pub gather : ℕ → List ℕ → List ℕ → List ℕ
gather limit found [] = found
gather limit found (a ∷ more) = gather limit (add_one limit found a) more

-- the addresses that a met object leads to
abbrev pub met_leads : Met → List ℕ
met_leads x = leads x.what

-- those that are found by some objects and what they lead to: each once, but for 0, at most so many
abbrev pub found_by : ℕ → List ℕ → List Met → List ℕ
found_by limit roots all = gather limit [] (roots ++ concat (map (λ x. met_leads x) all))

-- the object at an address as a met one, with what it is
abbrev pub met_at : (ℕ → What) → ℕ → Met
met_at what a = record { addr = a; what = what a }

-- the address of a met object
abbrev pub addr_of : Met → ℕ
addr_of x = x.addr

-- all objects that are met from some addresses on, in order of discovery
pub record AreMet (what : ℕ → What) (limit : ℕ) (roots : List ℕ) (all : List Met) : Type 0 where
  -- what each is
  pub each : all ≡ map (λ a. met_at what a) (map (λ x. addr_of x) all)
  -- they are the objects at the addresses and what these objects themselves lead to: each once, none left out
  pub whole : map (λ x. addr_of x) all ≡ found_by limit roots all
  -- each is found by those before it
  pub reached : (k : ℕ) → k < length all → k < length (found_by limit roots (take k all))

-- ---- as they are read

-- a set has exactly the addresses that were found
abbrev pub AreSame : List ℕ → List ℕ → Type 0
AreSame set found = (a : ℕ) → Contains set a ↔ Contains found a

-- a met object, as the code has it
abbrev pub met_of : read.Met → Met
met_of x = record { addr = x.addr; what = what_of x.what }
