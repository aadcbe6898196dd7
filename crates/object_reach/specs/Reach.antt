-- What is reached from roots, and when it is too much. `heap` says what object is at each address. Both, and the two
-- limits, are this project's rule.
use Rattle.std.specs.Prelude.{ℕ, List, [], ◌∷◌, ◌≡◌, ◌≢◌, ◌↔◌, ◌⊎◌, ◌<◌, ◌^◌, Option, Some, option_map, length, map}
use Rattle.std.specs.Prelude.{Result, Ok, Err, ⊤}
use Rattle.std.specs.List.{Contains, All, AllPairs, sum_by}
use Rattle.std.specs.List.Sorted.{IsStrictlyIncreasing}
use Rattle.process_memory.specs.Memory.{Fault}
use Rattle.py_builtins.specs.declared.error.ObjectError.{ObjectError}
use Rattle.py_builtins.specs.ObjectError.{object_fault}
use Rattle.object_reach.specs.declared.reached.ReachObject.{ReachObject}
use Rattle.object_reach.specs.declared.reached.ReachError.{ReachError}
use Rattle.object_reach.specs.declared.reached.ReachError.TheVariants.{ReachLimit, OutOfMemory}
use Rattle.object_reach.specs.Objects.{IsChild, Object}

-- in the list `first ∷ others` each next one is a child of the one before, and `last` is its end
abbrev pub IsPath : (ℕ → Object) → ℕ → List ℕ → ℕ → Type 0
IsPath heap first [] last = first ≡ last
IsPath heap first (next ∷ others) last = IsChild (heap first) next × IsPath heap next others last

-- a list of addresses begins with a root other than 0, ends with this address, and each next one is a child of the
-- one before
pub record IsReached (heap : ℕ → Object) (roots : List ℕ) (address : ℕ) : Type 0 where
  pub root : ℕ
  pub others : List ℕ
  pub is_root : Contains roots root
  pub not_null : root ≢ 0
  pub path : IsPath heap root others address

-- an object is whole, or broken by exactly this fault
abbrev pub IsBrokenBy : Option Fault → Option ObjectError → Type 0
IsBrokenBy failure broken = option_map object_fault broken ≡ option_map (λ f. Some f) failure

-- the address of each
abbrev pub addresses : List ReachObject → List ℕ
addresses objects = map (λ o. o.addr) objects

-- exactly the reached addresses, strictly ascending, each with its first failure or none
pub record IsReach (heap : ℕ → Object) (roots : List ℕ) (objects : List ReachObject) : Type 0 where
  pub ascending : IsStrictlyIncreasing (addresses objects)
  pub exact : (address : ℕ) → Contains (addresses objects) address ↔ IsReached heap roots address
  pub failures : All (λ o. IsBrokenBy (heap o.addr).failure o.broken) objects

-- the slots of these objects
abbrev pub slots_in_all : (ℕ → Object) → List ℕ → ℕ
slots_in_all heap list = sum_by (λ a. (heap a).slots) list

-- distinct reached addresses are more than 2^20, or their slots sum above 2^24
pub record PassesLimit (heap : ℕ → Object) (roots : List ℕ) : Type 0 where
  pub list : List ℕ
  pub distinct : AllPairs (λ x y. x ≢ y) list
  pub reached : All (IsReached heap roots) list
  pub passes : (2 ^ 20 < length list) ⊎ (2 ^ 24 < slots_in_all heap list)

-- what a search may answer: what is reached where the limit is not passed, and else that it is. Out of memory is free
abbrev pub IsRightReach : (ℕ → Object) → List ℕ → Result (List ReachObject) ReachError → Type 0
IsRightReach heap roots (Ok objects) = IsReach heap roots objects × (PassesLimit heap roots → ⊥)
IsRightReach heap roots (Err ReachLimit) = PassesLimit heap roots
IsRightReach heap roots (Err OutOfMemory) = ⊤
