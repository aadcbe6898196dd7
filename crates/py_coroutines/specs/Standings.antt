-- Where a coroutine stands, by its record and its frame's. What the fields say is CPython's: that a generator without a
-- frame is finished and `gi_running` says that it runs, that `f_lasti` is below 0 before the first instruction
-- (Objects/genobject.c up to 3.9), `f_state` and `f_stackdepth` (3.10), `gi_frame_state` and `stacktop` (from 3.11 on).
use Rattle.std.specs.Prelude.{ℕ, zero, suc, ◌+◌, ◌-◌, ◌*◌, ◌^◌, nat_eq, nat_le, nat_lt, Bool, ◌||◌, false, List, Ok}
use Rattle.std.specs.Prelude.{Option, Some, None, if◌then◌else◌}
use Rattle.elf64_core.specs.Fields.{u64_in, u32_in, u8_in}
use Rattle.process_memory.specs.Memory.{Found, Memory, ◌>>=◌, record_at}
use Rattle.py_coroutines.specs.declared.places.ApartPlaces.{ApartPlaces}
use Rattle.py_coroutines.specs.declared.places.ApartStack.{ApartStack}
use Rattle.py_coroutines.specs.declared.places.ApartStack.TheVariants.{Pointer, Depth}
use Rattle.py_coroutines.specs.declared.places.Family.{Family}
use Rattle.py_coroutines.specs.declared.places.Family.TheVariants.{Apart, Inside}
use Rattle.py_coroutines.specs.declared.places.InsidePlaces.{InsidePlaces}
use Rattle.py_coroutines.specs.declared.places.States.{States}
use Rattle.py_coroutines.specs.declared.standing.Framed.{Framed}
use Rattle.py_coroutines.specs.declared.standing.Framed.TheVariants as framed
use Rattle.py_coroutines.specs.declared.standing.Standing.{Standing}
use Rattle.py_coroutines.specs.declared.standing.Standing.TheVariants as stands
use Rattle.py_coroutines.specs.declared.standing.State.{State}
use Rattle.py_coroutines.specs.declared.standing.State.TheVariants.{Created, Yielding, Awaiting, Suspended}
use Rattle.py_coroutines.specs.declared.standing.State.TheVariants.{Running, Finished}

-- a suspended frame: where a state of its own says that a frame awaits, it is in a plain `yield`
abbrev pub suspended_by : Option ℕ → State
suspended_by None = Suspended
suspended_by (Some awaiting) = Yielding

-- whether a byte is the state of one that awaits, in versions that have such a state
abbrev pub is_awaiting : Option ℕ → ℕ → Bool
is_awaiting None byte = false
is_awaiting (Some awaiting) byte = nat_eq byte awaiting

-- the state that a byte stands for
unfoldable pub state_of : States → ℕ → State
state_of s byte =
    if nat_eq byte s.created then Created
    else if nat_eq byte s.suspended then suspended_by s.awaiting
    else if is_awaiting s.awaiting byte then Awaiting
    else if nat_eq byte s.running then Running
    else Finished

-- where a coroutine stands, by its state; `suspended` is where one stands that is suspended
abbrev pub by_state : Standing → Option ℕ → State → Standing
by_state suspended top Created = stands.Created
by_state suspended top Yielding = stands.Yielding
by_state suspended top Awaiting = stands.Awaiting top
by_state suspended top Suspended = suspended
by_state suspended top Running = stands.Running
by_state suspended top Finished = stands.Finished

-- the address of the topmost of so many words from an address on; a count is an i32
unfoldable pub words_top : ℕ → ℕ → Option ℕ
words_top bottom count =
    if nat_eq count 0 || nat_le (2 ^ 31) count then None else Some (bottom + 8 * (count - 1))

-- that of the word below an address
unfoldable pub pointer_top : ℕ → Option ℕ
pointer_top behind = if nat_lt behind 8 then None else Some (behind - 8)

-- ---- a frame inside

-- the address of the top of the stack of a frame inside a coroutine; none where the stack is empty
abbrev pub inside_top : InsidePlaces → ℕ → List ℕ → Option ℕ
inside_top p a bytes = words_top (a + p.frame + p.stack) (u32_in bytes (p.frame + p.depth))

-- where a coroutine with its frame inside stands, by its record
unfoldable pub inside_standing : InsidePlaces → ℕ → List ℕ → Standing
inside_standing p a bytes =
    by_state (stands.Suspended (u64_in bytes (p.frame + p.instruction) + 2) (inside_top p a bytes))
    (inside_top p a bytes) (state_of p.states (u8_in bytes p.state))

-- where the coroutine at an address stands, whose frame is inside
unfoldable pub inside_at : InsidePlaces → Memory → ℕ → Found Standing
inside_at p m a = do
  bytes ← record_at m a p.size
  Ok (inside_standing p a bytes)

-- ---- a frame object

-- what is said of a coroutine with a frame object: that it runs, where a byte says so, or this frame's address
abbrev pub running_by : Option ℕ → List ℕ → ℕ → Framed
running_by None bytes frame = framed.At frame
running_by (Some place) bytes frame = if nat_eq (u8_in bytes place) 0 then framed.At frame else framed.Running

-- what a coroutine's record says of it
unfoldable pub framed_of : ApartPlaces → List ℕ → Framed
framed_of p bytes =
    if nat_eq (u64_in bytes p.frame) 0 then framed.Finished else running_by p.running bytes (u64_in bytes p.frame)

-- where a coroutine stands up to 3.9, by its frame's code, last instruction (bytes) and end of stack
unfoldable pub pointer_standing : ℕ → ℕ → ℕ → Standing
pointer_standing code last behind =
    if nat_le (2 ^ 31) last then stands.Created else stands.Coded code (last + 2) (pointer_top behind)

-- where a coroutine stands in 3.10, by its frame's state, last instruction (code units) and stack
unfoldable pub depth_standing : State → ℕ → ℕ → ℕ → ℕ → Standing
depth_standing state code last bottom count =
    by_state (stands.Coded code (2 * last + 2) (words_top bottom count)) (words_top bottom count) state

-- where a coroutine stands, by how its frame object tells its stack
abbrev pub stack_standing : ApartStack → List ℕ → ℕ → ℕ → Standing
stack_standing (Pointer top) frame code last = pointer_standing code last (u64_in frame top)
stack_standing (Depth bottom depth state states) frame code last =
    depth_standing (state_of states (u8_in frame state)) code last (u64_in frame bottom) (u32_in frame depth)

-- where a coroutine stands, by the record of its frame object
unfoldable pub apart_standing : ApartPlaces → List ℕ → Standing
apart_standing p frame = stack_standing p.stack frame (u64_in frame p.code) (u32_in frame p.last)

-- where a coroutine stands: finished, running, or by the frame object that it names
unfoldable pub by_framed : ApartPlaces → Memory → Framed → Found Standing
by_framed p m framed.Finished = Ok stands.Finished
by_framed p m framed.Running = Ok stands.Running
by_framed p m (framed.At a) = do
  frame ← record_at m a p.frame_size
  Ok (apart_standing p frame)

-- where the coroutine at an address stands, whose frame is an object of its own
unfoldable pub apart_at : ApartPlaces → Memory → ℕ → Found Standing
apart_at p m a = do
  bytes ← record_at m a p.size
  by_framed p m (framed_of p bytes)

-- where the coroutine at an address stands
abbrev pub standing_at : Family → Memory → ℕ → Found Standing
standing_at (Apart p) m a = apart_at p m a
standing_at (Inside p) m a = inside_at p m a
