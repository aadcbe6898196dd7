-- The Python frames of a thread, by its address and their numbers.
use Rattle.std.specs.Prelude.{ℕ, ◌-◌, nat_eq, nat_lt, Bool, if◌then◌else◌, List, length, slice_get, find, is_some}
use Rattle.std.specs.Prelude.{Option, Some, None}
use Rattle.py_fronts.specs.declared.frame_front.FramesFront.{FramesFront}
use Rattle.py_fronts.specs.declared.salvaged.SalvagedInterpreter.{SalvagedInterpreter}
use Rattle.py_fronts.specs.declared.standing.Standing.{Standing}
use Rattle.py_fronts.specs.declared.thread_front.ThreadFront.{ThreadFront}

-- the thread whose record stands at an address
abbrev pub thread_in : List ThreadFront → ℕ → Option ThreadFront
thread_in threads address = find (λ thread. nat_eq thread.address address) threads

-- an interpreter has a thread at an address
abbrev pub has_thread : SalvagedInterpreter → ℕ → Bool
has_thread i address = is_some (thread_in i.front.threads.threads.items address)

-- the frames of a thread, where there is one
abbrev pub frames_in : Option ThreadFront → Option FramesFront
frames_in None = None
frames_in (Some thread) = Some thread.frames

-- the frames of the interpreter's thread whose record stands at an address
abbrev pub front_in : SalvagedInterpreter → ℕ → Option FramesFront
front_in i address = frames_in (thread_in i.front.threads.threads.items address)

-- the same, where there is an interpreter
abbrev pub front_of : Option SalvagedInterpreter → ℕ → Option FramesFront
front_of None address = None
front_of (Some i) address = front_in i address

-- the frames of the first thread at an address
abbrev pub front_at : List SalvagedInterpreter → ℕ → Option FramesFront
front_at is address = front_of (find (λ i. has_thread i address) is) address

-- what stands for a frame behind those that are shown first: nothing for one of those between, which aren't shown
abbrev pub standing_behind : FramesFront → ℕ → Option Standing
standing_behind f n = if nat_lt n f.between then None else slice_get f.last.items (n - f.between)

-- a frame among the first ones, else the one of this number among the last
abbrev pub standing_or : FramesFront → ℕ → Option Standing → Option Standing
standing_or f n (Some standing) = Some standing
standing_or f n None = standing_behind f (n - length f.first.items)

-- what stands for the frame of a number
abbrev pub standing_at : FramesFront → ℕ → Option Standing
standing_at f n = standing_or f n (slice_get f.first.items n)
