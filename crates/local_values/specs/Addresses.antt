-- The addresses of the locals of all frames that are shown.
use Rattle.std.specs.Prelude.{ℕ, nat_eq, if◌then◌else◌, List, [], ◌∷◌, ◌++◌, map, flat_map, Option, Some, None, Vec}
use Rattle.std.specs.Global.{Global}
use Rattle.std.specs.List.{fold, list_any}
use Rattle.py_stacks.specs.declared.trace.LocalVariable.{LocalVariable}
use Rattle.py_fronts.specs.declared.frame_front.FramesFront.{FramesFront}
use Rattle.py_fronts.specs.declared.salvaged.SalvagedInterpreter.{SalvagedInterpreter}
use Rattle.py_fronts.specs.declared.standing.Standing.{Standing}
use Rattle.py_fronts.specs.declared.standing.Standing.TheVariants.{Frame, Member}
use Rattle.py_fronts.specs.declared.thread_front.ThreadFront.{ThreadFront}

-- the address of a local's value
abbrev pub address_of : LocalVariable → ℕ
address_of local = local.addr

-- the addresses of the values of a frame's locals
abbrev pub in_locals : Option (Vec LocalVariable Global) → List ℕ
in_locals None = []
in_locals (Some locals) = map address_of locals.items

-- the addresses of the values of a shown frame's locals
abbrev pub in_standing : Standing → List ℕ
in_standing (Frame frame fault) = in_locals frame.locals
in_standing (Member address why) = []

-- the addresses of the values in a thread's first and last frames
abbrev pub in_frames : FramesFront → List ℕ
in_frames frames = flat_map in_standing frames.first.items ++ flat_map in_standing frames.last.items

-- the addresses of the values in a thread
abbrev pub in_thread : ThreadFront → List ℕ
in_thread thread = in_frames thread.frames

-- the addresses of the values in an interpreter's threads, in order
abbrev pub in_interpreter : SalvagedInterpreter → List ℕ
in_interpreter interpreter = flat_map in_thread interpreter.front.threads.threads.items

-- an address that was not met yet stands behind the others
abbrev pub with_new : List ℕ → ℕ → List ℕ
with_new met a = if list_any (nat_eq a) met then met else met ++ a ∷ []

-- each of some addresses once, in the order in which they stand there first
abbrev pub each_once : List ℕ → List ℕ
each_once addresses = fold with_new [] addresses

-- those of all frames that are shown, the first and the last of each thread, each once
unfoldable pub shown_addresses : List SalvagedInterpreter → List ℕ
shown_addresses interpreters = each_once (flat_map in_interpreter interpreters)
