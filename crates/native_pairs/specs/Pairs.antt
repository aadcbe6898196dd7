-- Which native frames run Python's frames, by addresses. CPython keeps the record at which a run ends or begins among
-- the local variables of the C function that executes it (Python/ceval.c: `entry_frame` from 3.12 on, `cframe` in
-- 3.11), so that it lies in that frame's part of the stack.
use Rattle.std.specs.Prelude.{◌≡◌, ℕ, ◌<◌, nat_le, nat_lt, ◌&&◌, Bool, false, List, length, take, count_by, slice_get}
use Rattle.std.specs.Prelude.{get_or, Option, Some}
use Rattle.native_pairs.specs.declared.part.Part.{Part}

-- an address lies from one on and before another, where all three are known
abbrev pub is_between : Option ℕ → Option ℕ → Option ℕ → Bool
is_between (Some border) (Some from) (Some to) = nat_le from border && nat_lt border to
is_between _ _ _ = false

-- a run lies in a part, by its border: there is such a run, and the part is one of Python's own code
abbrev pub lies_in : Option Part → Option (Option ℕ) → Bool
lies_in (Some part) (Some border) = part.is_own && is_between border part.from part.to
lies_in _ _ = false

-- how many of some native frames have a run, and how many of the first so many
abbrev pub runs_all : List Bool → ℕ
runs_all takes = count_by (λ t. t) takes

-- how many of the first so many native frames have a run
abbrev pub runs_before : List Bool → ℕ → ℕ
runs_before takes k = runs_all (take k takes)

-- which of some native frames have a run: it is said of each, and the k-th one has the next run, that behind those of
-- the frames before it, exactly where that lies in it
pub record IsPaired (lies : ℕ → ℕ → Bool) (frames : ℕ) (takes : List Bool) : Type 0 where
  pub each : length takes ≡ frames
  pub next : (k : ℕ) → k < frames → get_or takes k false ≡ lies k (runs_before takes k)

-- by addresses: a run lies in a native frame where its border does
abbrev pub lies_by : List Part → List (Option ℕ) → ℕ → ℕ → Bool
lies_by parts borders k run = lies_in (slice_get parts k) (slice_get borders run)

-- which native frames have a run, by the borders of the runs
abbrev pub IsPairedByAddress : List Part → List (Option ℕ) → List Bool → Type 0
IsPairedByAddress parts borders takes = IsPaired (lies_by parts borders) (length parts) takes
