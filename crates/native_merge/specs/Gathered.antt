-- Frames that are merged so far, and the cursor.
use Rattle.std.specs.Prelude.{◌≡◌, ℕ, Bool, List, ◌++◌, drop, take}
use Rattle.std.specs.List.{AllZip}
use Rattle.py_stacks.specs.declared.trace.Frame.{Frame}
use Rattle.py_stacks.specs.Frames.{Call}
use Rattle.outside.specs.Counts.{count_after}
use Rattle.native_merge.specs.StackParts.{cursor, step_len}
use Rattle.native_merge.specs.PythonFrames.{calls, ends_part}
use Rattle.native_merge.specs.MergedStacks.{StackItem, interleaved, step_count}
use Rattle.native_merge.specs.NativesShown.{NativeItem, ShowsFrame}

-- what a u64 that counts so far shows
abbrev pub capped : ℕ → ℕ
capped n = count_after 0 n

-- how far a step from a place goes on, and what it takes
abbrev pub width_at : List Frame → ℕ → ℕ
width_at frames at = step_len ends_part (drop at (calls frames))

-- the Python frames that a step from a place takes
abbrev pub taken_at : List Frame → ℕ → List Call
taken_at frames at = take (width_at frames at) (drop at (calls frames))

-- after these items these frames are merged, and the cursor stands here
pub record Gathered (exists : List ℕ → Bool) (frames : List Frame) (items : List (StackItem NativeItem))
    (made : List Frame) (at : ℕ) : Type 0 where
  pub shown : AllZip (ShowsFrame exists) (interleaved ends_part (calls frames) 0 items) (calls made)
  pub stands : at ≡ capped (cursor ends_part (step_count items) (calls frames))

-- from these frames and this cursor to those, what these items add is merged
pub record GathersMore (exists : List ℕ → Bool) (frames : List Frame) (js : List (StackItem NativeItem))
    (old : List Frame) (at : ℕ) (new : List Frame) (next : ℕ) : Type 0 where
  pub more : (items : List (StackItem NativeItem)) → Gathered exists frames items old at
      → Gathered exists frames (items ++ js) new next
