-- The stack of a thread: a chain of steps, and how it ends.
use Rattle.std.specs.Prelude.{◌≡◌, ℕ, ◌+◌, ◌*◌, ◌<◌, List, [], ◌∷◌, ◌++◌, length, Result, Ok, Err}
use Rattle.process_memory.specs.Memory.{Memory}
use Rattle.process_memory.specs.Seen.{Reading, Seen}
use Rattle.frame_tables.specs.Tables.{Ascends}
use Rattle.core_unwind.specs.declared.end.End.{End}
use Rattle.core_unwind.specs.declared.end.End.TheVariants.{Cut}
use Rattle.core_unwind.specs.declared.end.Limit.TheVariants.{Frames}
use Rattle.core_unwind.specs.declared.end.UnwindError.{UnwindError}
use Rattle.core_unwind.specs.declared.frame.Frame.{Frame}
use Rattle.core_unwind.specs.declared.frame.Next.{Next}
use Rattle.core_unwind.specs.declared.frame.Next.TheVariants.{Caller, Stops}
use Rattle.core_unwind.specs.declared.frame.Turn.{Turn}
use Rattle.core_unwind.specs.declared.place.Mapping.{Mapping}
use Rattle.core_unwind.specs.declared.state.State.{State}
use Rattle.core_unwind.specs.declared.walk.NativeStack.{NativeStack}
use Rattle.core_unwind.specs.Places.{IsSpot, Site}

-- frames, where the last of them stands, and how they end
pub record Chain : Type 0 where
  pub frames : List Frame
  pub last : State
  pub end : End

-- from a state on, each frame is that of a step, which leads to the next one's state, and the last one to the state
-- `at`
unfoldable pub Leads : (State → Turn → Type 0) → State → List Frame → (at : State) → Type 0
Leads step s [] at = s ≡ at
Leads step s (f ∷ fs) at = (caller : State) × step s (record { frame = f; next = Caller caller }) × Leads step
    caller fs at

-- how a stack ends behind so many frames: by itself, or where no more may be there
abbrev pub EndsBy : Next → (count limit : ℕ) → End → Type 0
EndsBy (Stops end) count limit e = e ≡ end
EndsBy (Caller s) count limit e = (count ≡ limit) × (e ≡ Cut Frames)

-- the stack from a state on, of which at most `limit` frames are told
pub record IsStack (step : State → Turn → Type 0) (limit : ℕ) (first : State) (stack : Chain) : Type 0 where
  -- the frames whose caller is told
  pub callees : List Frame
  pub leads : Leads step first callees stack.last
  -- and the last one
  pub last : Frame
  pub next : Next
  pub turns : step stack.last (record { frame = last; next = next })
  pub frames : stack.frames ≡ callees ++ last ∷ []
  pub within : length callees < limit
  pub ends : EndsBy next (length callees + 1) limit stack.end

-- where a file is mapped in code, the first addresses of its table ascend
abbrev pub AllAscend : List Mapping → Type 0
AllAscend mappings = (at : ℕ) (site : Site) → IsSpot mappings at (Ok site) → Ascends site.bytes

-- ---- as it is read

-- a stack as it was read, as a chain
abbrev pub chain_of : NativeStack → Chain
chain_of s = record { frames = s.frames.items; last = s.last; end = s.end }

-- the reads of a stack: so many for each frame
abbrev pub stack_reads : ℕ → Result NativeStack UnwindError → ℕ
stack_reads limit (Ok s) = 8549 * length s.frames.items
stack_reads limit (Err e) = 8549 * limit

-- the frames that were followed so far: the last one's caller stands at `at`
pub record Following (step : Memory → State → Turn → Type 0) (limit : ℕ) (first : State) (old new : Seen)
    (frames : List Frame) (at : State) : Type 0 where
  pub within : length frames < limit
  pub reading : Reading (8549 * length frames) old new (λ m. Leads (step m) first frames at)
