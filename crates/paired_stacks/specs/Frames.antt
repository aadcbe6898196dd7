-- What the native frames of a thread tell of the Python frames that they run. A frame's part of the stack goes from its
-- stack pointer to its canonical frame address (DWARF 5, section 6.4), which is the stack pointer that its caller has.
use Rattle.std.specs.Prelude.{ℕ, ◌-◌, ◌&&◌, Bool, true, false, if◌then◌else◌, List, [], ◌∷◌, ◌++◌, map}
use Rattle.std.specs.Prelude.{Option, Some, None}
use Rattle.core_unwind.specs.declared.frame.Frame.{Frame}
use Rattle.native_frames.specs.Threads.{StackShown}
use Rattle.native_frames.specs.declared.stacks.Function.{Function}
use Rattle.native_frames.specs.declared.stacks.NativeFrame.{NativeFrame}
use Rattle.native_pairs.specs.Kinds.{function_kind, is_hidden}
use Rattle.native_pairs.specs.declared.kind.FunctionKind.{FunctionKind}
use Rattle.native_pairs.specs.declared.kind.FunctionKind.TheVariants.{Step, Native, LeftOut}
use Rattle.native_pairs.specs.declared.part.Part.{Part}
use Rattle.native_stacks.specs.Threads.{NativeShown}
use Rattle.paired_stacks.specs.Code.{is_own}
use Rattle.paired_stacks.specs.declared.code.OwnCode.{OwnCode}

-- the address by which a frame's code is found: of a return address that of the last byte of the call
abbrev pub code_at : Frame → ℕ
code_at f = if f.is_exact then f.pc else f.pc - 1

-- the name of a function, where it is known
abbrev pub name_by : Option Function → Option (List ℕ)
name_by None = None
name_by (Some function) = Some function.name

-- the name of a native frame's function, where it is known
abbrev pub name_of : NativeFrame → Option (List ℕ)
name_of f = name_by f.function

-- whether a function is the interpreter's loop
abbrev pub is_loop : FunctionKind → Bool
is_loop Step = true
is_loop Native = false
is_loop LeftOut = false

-- a frame is a call of the interpreter's loop, by its function's name
abbrev pub is_step : OwnCode → NativeFrame → Bool
is_step own f = is_own own (code_at f.frame) && is_loop (function_kind (name_of f))

-- a frame is hidden among Python's frames
abbrev pub is_left_out : OwnCode → NativeFrame → Bool
is_left_out own f = is_hidden (is_own own (code_at f.frame)) (name_of f)

-- the part of a frame whose stack pointer is this
abbrev pub part_of : OwnCode → Option ℕ → NativeFrame → Part
part_of own from f = record { is_own = is_own own (code_at f.frame); from = from; to = f.frame.cfa }

-- the parts of some frames, from the newest on: each other one begins where the one before it ends
unfoldable pub parts_from : OwnCode → (from : Option ℕ) → List NativeFrame → List Part
parts_from own from [] = []
parts_from own from (f ∷ fs) = part_of own from f ∷ parts_from own f.frame.cfa fs

-- ---- of a thread: the frames of its stack, and then those that follow it by a guess, of which the newest one's stack
-- pointer is not known

-- the frames of a stack, where there is one
abbrev pub frames_of : Option StackShown → List NativeFrame
frames_of None = []
frames_of (Some s) = s.frames

-- the parts of the stack that a thread's native frames have, from its stack pointer on
abbrev pub parts_of : OwnCode → (start : Option ℕ) → NativeShown → List Part
parts_of own start t = parts_from own start (frames_of t.stack) ++ parts_from own None (frames_of t.guessed)

-- which native frames of a thread are calls of the interpreter's loop
abbrev pub steps_of : OwnCode → NativeShown → List Bool
steps_of own t = map (is_step own) (frames_of t.stack) ++ map (is_step own) (frames_of t.guessed)

-- which native frames of a thread are hidden among Python's frames
abbrev pub hidden_of : OwnCode → NativeShown → List Bool
hidden_of own t = map (is_left_out own) (frames_of t.stack) ++ map (is_left_out own) (frames_of t.guessed)
