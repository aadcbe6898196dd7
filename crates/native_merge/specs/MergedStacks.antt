-- Python frames merged with native ones, as whole lists.
use Rattle.std.specs.Prelude.{ℕ, suc, ◌+◌, nat_eq, ◌||◌, Bool, if◌then◌else◌, List, [], ◌∷◌, ◌++◌, length, map, Result}
use Rattle.std.specs.Prelude.{Ok, Err}
use Rattle.native_merge.specs.StackParts.{part, cursor}

-- what is met on a native stack: a step of Python's interpreter, or a native frame that is shown
pub data StackItem (N : Type 0) : Type 0 where
  Step : StackItem N
  Shown : N → StackItem N

-- a merged frame, by where it is from
pub data MergedFrame (C N : Type 0) : Type 0 where
  Python : C → MergedFrame C N
  Native : N → MergedFrame C N

module _ {C N : Type 0} where
  -- the Python frames among these, in order
  unfoldable pub pythons : List (MergedFrame C N) → List C
  pythons [] = []
  pythons (Python c ∷ ms) = c ∷ pythons ms
  pythons (Native x ∷ ms) = pythons ms

  -- the native frames among these, in order
  unfoldable pub natives : List (MergedFrame C N) → List N
  natives [] = []
  natives (Python c ∷ ms) = natives ms
  natives (Native x ∷ ms) = x ∷ natives ms

module _ {N : Type 0} where
  -- how many steps there are
  unfoldable pub step_count : List (StackItem N) → ℕ
  step_count [] = 0
  step_count (Step ∷ is) = suc (step_count is)
  step_count (Shown x ∷ is) = step_count is

  -- the native frames that are shown, in order
  unfoldable pub natives_in : List (StackItem N) → List N
  natives_in [] = []
  natives_in (Step ∷ is) = natives_in is
  natives_in (Shown x ∷ is) = x ∷ natives_in is

-- why frames don't fit: how far the steps came, and how many frames there are
pub record Misfit : Type 0 where
  pub steps : ℕ
  pub frames : ℕ

-- frames that don't fit, with how far the steps came and how many there are
abbrev pub misfit : ℕ → ℕ → Misfit
misfit c n = record { steps = c; frames = n }

-- a cursor stands at the end of some frames, or one past it
abbrev pub at_end : {C : Type 0} → List C → ℕ → Bool
at_end fs c = nat_eq c (length fs) || nat_eq c (length fs + 1)

module _ {C N : Type 0} (is_marked : C → Bool) (fs : List C) where
  -- in the place of the k-th step, from that number on, stands the k-th part of the Python frames; in the place of
  -- each native frame it itself
  unfoldable pub interleaved : ℕ → List (StackItem N) → List (MergedFrame C N)
  interleaved k [] = []
  interleaved k (Step ∷ is) = map Python (part is_marked k fs) ++ interleaved (suc k) is
  interleaved k (Shown x ∷ is) = Native x ∷ interleaved k is

  -- the merged frames, where the cursor has come so far
  abbrev pub merged_at : ℕ → List (StackItem N) → Result (List (MergedFrame C N)) Misfit
  merged_at c is = if nat_eq c 0 then Ok (interleaved 0 is ++ map Python fs)
      else (if at_end fs c then Ok (interleaved 0 is) else Err (misfit c (length fs)))

  -- the merged frames: without a step all Python frames stand last; where the cursor has not come just to the end, or
  -- one past it, they don't fit
  unfoldable pub merged : List (StackItem N) → Result (List (MergedFrame C N)) Misfit
  merged is = merged_at (cursor is_marked (step_count is) fs) is
