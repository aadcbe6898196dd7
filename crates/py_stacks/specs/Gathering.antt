-- The frames of a thread under way.
use Rattle.std.specs.Prelude.{◌≡◌, ℕ, true, false, Option, Some, None, List, [], ◌∷◌, ◌++◌, map, length}
use Rattle.process_memory.specs.Memory.Fault.{ChainLimit}
use Rattle.process_memory.specs.Seen.{Seen}
use Rattle.process_memory.specs.Walk.{Walking}
use Rattle.py_builtins.specs.Consulted.{IsConsulted}
use Rattle.py_fields.specs.declared.layout.Layout.{Layout}
use Rattle.py_stacks.specs.declared.asked.Asked.{Asked}
use Rattle.py_stacks.specs.declared.trace.Frame.{Frame}
use Rattle.py_stacks.specs.Frames.{Call, call_of, frame_step, member_cost, member_limit, shown_by, with_mark}

-- a frame with the mark that its caller isn't shown
abbrev pub marked : Frame → Frame
marked f = record f { is_shim_entry = true }

-- the frames with the last one marked
unfoldable pub mark_last : List Frame → List Frame
mark_last [] = []
mark_last (f ∷ []) = marked f ∷ []
mark_last (f ∷ g ∷ fs) = f ∷ mark_last (g ∷ fs)

-- the frames after one more member: where it is skipped the last one is marked, else it stands at the end
abbrev pub Adds : List Frame → Option Frame → List Frame → Type 0
Adds old None new = new ≡ mark_last old
Adds old (Some f) new = new ≡ old ++ f ∷ []

-- the same of what they say of their calls
unfoldable pub mark_call : List Call → List Call
mark_call [] = []
mark_call (c ∷ []) = with_mark c true ∷ []
mark_call (c ∷ d ∷ cs) = c ∷ mark_call (d ∷ cs)

-- a walk that has met so many members, and kept these frames
pub record Gathering (q : Asked) (l : Layout) (first : ℕ) (old new : Seen)
    (frames : List Frame) (met at : ℕ) : Type 0 where
  pub members : List (Option Call)
  pub walking : Walking (IsConsulted l) ChainLimit (frame_step q l) (member_cost q l) member_limit 0 first
      old new members met (length frames) at
  pub held : map call_of frames ≡ shown_by false members
