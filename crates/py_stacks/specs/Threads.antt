-- The threads of an interpreter, each with its frames, and the faults on the way.
use Rattle.std.specs.Prelude.{◌≡◌, ℕ, ◌+◌, ◌≤◌, Bool, true, false, Option, Some, None, List, [], ◌∷◌, map, length}
use Rattle.std.specs.Prelude.{Result, Ok, Err, ℤ, pos, Vec}
use Rattle.std.specs.Global.{Global}
use Rattle.elf64_core.specs.Fields.{u64_in}
use Rattle.process_memory.specs.Memory.{Memory, Found, Fault, ◌>>=◌, record_at, word_at}
use Rattle.process_memory.specs.Memory.Fault.{ThreadLimit}
use Rattle.process_memory.specs.Walk.{Step, IsChain, walk_at, walk_cost, walk_faults}
use Rattle.process_memory.specs.Faults.{faults_then}
use Rattle.py_fields.specs.declared.layout.Layout.{Layout}
use Rattle.py_fields.specs.declared.layout.CframeAt.{CframeAt}
use Rattle.py_stacks.specs.declared.asked.Asked.{Asked}
use Rattle.py_stacks.specs.declared.trace.StackTrace.{StackTrace}
use Rattle.py_stacks.specs.Frames.{Call, call_of, frames_at, frames_cost, frames_faults, AreFrames, cost_after}

-- how many threads are walked, at most
abbrev pub thread_limit : ℕ
thread_limit = 4096

-- what a trace says of its thread
pub record Trace : Type 0 where
  pub pid : ℤ
  pub thread_id : ℕ
  pub thread_name : Option (List ℕ)
  pub os_thread_id : Option ℕ
  pub active : Bool
  pub owns_gil : Bool
  pub frames : List Call

-- what a trace says of its thread, in plain terms
abbrev pub trace_of : StackTrace → Trace
trace_of t = record {
  pid = t.pid;
  thread_id = t.thread_id;
  thread_name = t.thread_name;
  os_thread_id = t.os_thread_id;
  active = t.active;
  owns_gil = t.owns_gil;
  frames = map call_of t.frames.items;
}

-- a result with its trace in plain terms
abbrev pub trace_of_result : {E : Type 0} → Result StackTrace E → Result Trace E
trace_of_result (Ok t) = Ok (trace_of t)
trace_of_result (Err e) = Err e

-- one step of the walk of threads, by the next thread's address and the trace that were read
abbrev pub thread_of_result : {E : Type 0} → Result (ℕ × StackTrace) E → Result (Step (Unit {0}) Trace) E
thread_of_result (Ok x) = Ok (record { next = x.0; state = tt; part = trace_of x.1 })
thread_of_result (Err e) = Err e

-- a result with its traces in plain terms
abbrev pub traces_of_result : {E : Type 0} → Result (Vec StackTrace Global) E → Result (List Trace) E
traces_of_result (Ok v) = Ok (map trace_of v.items)
traces_of_result (Err e) = Err e

-- the system's id of a thread, where the layout has it
abbrev pub native_id : Option ℕ → List ℕ → Option ℕ
native_id None thread = None
native_id (Some at) thread = Some (u64_in thread at)

-- the first frame of a thread: the one that its record names, or that the C frame names which its record names
abbrev pub frame_through : Option CframeAt → Memory → ℕ → Found ℕ
frame_through None m a = Ok a
frame_through (Some c) m a = word_at m (a + c.current)

-- the address of a thread's first frame, by its record and where the layout has one by its C frame
unfoldable pub first_frame_at : Layout → Memory → List ℕ → Found ℕ
first_frame_at l m thread = frame_through l.cframe m (u64_in thread l.thread.frame)

-- the trace of a thread, by its record and its frames. That it holds the lock is not said here
abbrev pub trace_by : Layout → List ℕ → List Call → Trace
trace_by l thread frames = record {
  pid = pos 0;
  thread_id = u64_in thread l.thread.id;
  thread_name = None;
  os_thread_id = native_id l.thread.native_id thread;
  active = true;
  owns_gil = false;
  frames = frames;
}

-- one step of the walk of threads: a thread's trace, and the thread after it
unfoldable pub thread_step : Asked → Layout → Memory → Unit {0} → ℕ → Found (Step (Unit {0}) Trace)
thread_step q l m s a = do
  thread ← record_at m a l.thread.size
  first ← first_frame_at l m thread
  frames ← frames_at q l m first
  Ok (record { next = u64_in thread l.thread.next; state = tt; part = trace_by l thread frames })

-- the trace of a thread
unfoldable pub trace_at : Asked → Layout → Memory → ℕ → Found Trace
trace_at q l m a = thread_step q l m tt a >>= (λ x. Ok x.part)

-- the traces of the threads from a head on, to null, or the first fault
unfoldable pub threads_at : Asked → Layout → Memory → ℕ → Found (List Trace)
threads_at q l m head = walk_at ThreadLimit (thread_step q l m) thread_limit tt head

-- the traces of an interpreter's threads, to null, or the first fault
unfoldable pub traces_at : Asked → Layout → Memory → ℕ → Found (List Trace)
traces_at q l m interpreter = do
  head ← word_at m (interpreter + l.interpreter.threads)
  threads_at q l m head

-- ---- how many reads

-- those of a thread's frames
unfoldable pub thread_frames_cost : Asked → Layout → Memory → ℕ → ℕ
thread_frames_cost q l m a =
    cost_after (record_at m a l.thread.size >>= first_frame_at l m) (λ first. frames_cost q l m first)

-- at most two reads for a thread, and those of its frames
unfoldable pub thread_cost : Asked → Layout → Memory → Unit {0} → ℕ → ℕ
thread_cost q l m s a = 2 + thread_frames_cost q l m a

-- at most so many reads for the threads from a head on
unfoldable pub threads_cost : Asked → Layout → Memory → ℕ → ℕ
threads_cost q l m head = walk_cost (thread_step q l m) (thread_cost q l m) thread_limit tt head

-- at most so many reads for an interpreter's threads: one for their head, and those of each
unfoldable pub traces_cost : Asked → Layout → Memory → ℕ → ℕ
traces_cost q l m interpreter =
    1 + cost_after (word_at m (interpreter + l.interpreter.threads)) (λ head. threads_cost q l m head)

-- ---- in the subject's own words

-- the thread after one, where its record is in memory
unfoldable pub thread_after : Layout → Memory → ℕ → Found ℕ
thread_after l m a = do
  thread ← record_at m a l.thread.size
  Ok (u64_in thread l.thread.next)

-- a trace is that of a thread: its fields by its record, and the frames of its whole chain
pub record IsTraceOf (q : Asked) (l : Layout) (m : Memory) (a : ℕ) (trace : Trace) : Type 0 where
  pub thread : List ℕ
  pub read : record_at m a l.thread.size ≡ Ok thread
  pub first : ℕ
  pub names : first_frame_at l m thread ≡ Ok first
  pub fields : trace ≡ trace_by l thread trace.frames
  pub frames : AreFrames q l m first trace.frames

-- each trace is that of its thread
abbrev pub AreTracesOf : Asked → Layout → Memory → List ℕ → List Trace → Type 0
AreTracesOf q l m [] [] = Unit {0}
AreTracesOf q l m [] (t ∷ ts) = ⊥
AreTracesOf q l m (a ∷ rest) [] = ⊥
AreTracesOf q l m (a ∷ rest) (t ∷ ts) = IsTraceOf q l m a t × AreTracesOf q l m rest ts

-- the traces are those of the interpreter's whole chain of threads, to null, in order
pub record AreTraces (q : Asked) (l : Layout) (m : Memory) (interpreter : ℕ) (traces : List Trace) : Type 0 where
  pub head : ℕ
  pub names : word_at m (interpreter + l.interpreter.threads) ≡ Ok head
  pub threads : List ℕ
  pub chain : IsChain (thread_after l m) head threads
  pub each : AreTracesOf q l m threads traces
  pub within : length threads ≤ thread_limit

-- ---- the faults, in order

-- the faults of a thread: its missing record, then its missing first frame, then those of its frames
unfoldable pub thread_faults : Asked → Layout → Memory → Unit {0} → ℕ → List Fault
thread_faults q l m s a = faults_then (record_at m a l.thread.size)
    (λ thread. faults_then (first_frame_at l m thread) (λ first. frames_faults q l m first))

-- where the chain of threads goes on
unfoldable pub thread_next : Layout → Memory → Unit {0} → ℕ → Found (ℕ × Unit {0})
thread_next l m s a = do
  thread ← record_at m a l.thread.size
  Ok (u64_in thread l.thread.next, tt)

-- the faults of an interpreter: the missing head of its threads, then those of each thread that is met, and
-- last the limit of threads
unfoldable pub traces_faults : Asked → Layout → Memory → ℕ → List Fault
traces_faults q l m interpreter = faults_then (word_at m (interpreter + l.interpreter.threads))
    (λ head. walk_faults ThreadLimit (thread_next l m) (thread_faults q l m) thread_limit tt head)
