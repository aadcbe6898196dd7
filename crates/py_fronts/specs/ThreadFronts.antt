-- The front of an interpreter's threads, each with the front of its frames.
use Rattle.std.specs.Prelude.{◌≡◌, ℕ, ◌+◌, ◌*◌, ◌-◌, ◌≤◌, min, nat_eq, if◌then◌else◌, Option, List, [], ◌∷◌, length}
use Rattle.std.specs.Prelude.{map, sum_by, Result, Ok, Err, ⊤}
use Rattle.elf64_core.specs.Fields.{u64_in}
use Rattle.process_memory.specs.Memory.{Found, Memory, record_at}
use Rattle.process_memory.specs.Seen.{Reading, ReadingBy, Seen}
use Rattle.py_fields.specs.declared.layout.Layout.{Layout}
use Rattle.py_stacks.specs.declared.asked.Asked.{Asked}
use Rattle.py_stacks.specs.declared.error.StackError.{StackError}
use Rattle.py_stacks.specs.declared.error.StackError.TheVariants as stack
use Rattle.py_stacks.specs.Threads.{native_id, thread_limit}
use Rattle.py_fronts.specs.declared.thread_front.ThreadFront.{ThreadFront}
use Rattle.py_fronts.specs.declared.thread_front.ThreadsFront.{ThreadsFront}
use Rattle.py_fronts.specs.declared.thread_front.Thread.{Thread}
use Rattle.py_fronts.specs.declared.thread_front.Thread.TheVariants.{At, Broken}
use Rattle.py_fronts.specs.ChainEnds.{ending_of}
use Rattle.py_fronts.specs.FrameFronts.{FramesShown, chain_of_thread, frames_front, frames_shown, shown_of}
use Rattle.py_fronts.specs.FrameFronts.{thread_members_limit}
use Rattle.py_fronts.specs.Standings.{standing_reads}
use Rattle.py_fronts.specs.Front.{Break, Ending, Front, behind, front_at}
use Rattle.py_fronts.specs.Front.Break.{Lost, Stray}
use Rattle.py_fronts.specs.Front.Ending.{Broken as IsBroken}

-- a thread by its record: the one after it, where it names the interpreter
abbrev pub after_record : Layout → ℕ → Found (List ℕ) → Result ℕ Break
after_record l interpreter (Ok thread) =
    if nat_eq (u64_in thread l.thread.interp) interpreter
    then Ok (u64_in thread l.thread.next)
    else Err (Stray (u64_in thread l.thread.interp))
after_record l interpreter (Err f) = Err (Lost f)

-- the thread after one of an interpreter, where its record is in memory and names it
unfoldable pub thread_of : Layout → ℕ → Memory → ℕ → Result ℕ Break
thread_of l interpreter m a = after_record l interpreter (record_at m a l.thread.size)

-- the front of an interpreter's threads from the first one on
abbrev pub threads_front : Layout → ℕ → Memory → ℕ → Front
threads_front l interpreter m head = front_at (thread_of l interpreter m) thread_limit head

-- a thread by the address of its record, its ids (`thread_id` and `native_thread_id`), and the front of its frames
pub record ThreadShown : Type 0 where
  pub address : ℕ
  pub thread_id : ℕ
  pub os_thread_id : Option ℕ
  pub frames : FramesShown

-- a thread by its record, where so many members may be met yet
abbrev pub thread_by : Asked → Layout → Memory → (limit left : ℕ) → ℕ → List ℕ → ThreadShown
thread_by q l m limit left a thread = record {
  address = a;
  thread_id = u64_in thread l.thread.id;
  os_thread_id = native_id l.thread.native_id thread;
  frames = frames_shown q l m limit (chain_of_thread l m (min left thread_members_limit) thread);
}

-- the bytes that were found; none where there is a fault
abbrev pub bytes_of : Found (List ℕ) → List ℕ
bytes_of (Ok bytes) = bytes
bytes_of (Err f) = []

-- a member of a front of threads, whose record is in memory
unfoldable pub thread_shown : Asked → Layout → Memory → (limit left : ℕ) → ℕ → ThreadShown
thread_shown q l m limit left a = thread_by q l m limit left a (bytes_of (record_at m a l.thread.size))

-- how many members may be met after some threads
unfoldable pub left_after : ℕ → List ThreadShown → ℕ
left_after left [] = left
left_after left (t ∷ ts) = left_after (left - t.frames.met) ts

-- the threads at some addresses, in order, each with what those before it left
unfoldable pub threads_shown : Asked → Layout → Memory → (limit left : ℕ) → List ℕ → List ThreadShown
threads_shown q l m limit left [] = []
threads_shown q l m limit left (a ∷ rest) = thread_shown q l m limit left a
    ∷ threads_shown q l m limit (left - (thread_shown q l m limit left a).frames.met) rest

-- the first threads of an interpreter's chain, and how they end
pub record ThreadsShown : Type 0 where
  pub threads : List ThreadShown
  pub ending : Ending

-- the threads of a front, each with its frames, where so many members may be met yet
abbrev pub front_shown : Asked → Layout → Memory → (limit left : ℕ) → Front → ThreadsShown
front_shown q l m limit left front =
    record { threads = threads_shown q l m limit left front.members; ending = front.ending }

-- ---- as it is read

-- a thread's front that the code has, as the thread that it shows
abbrev pub thread_front : ThreadFront → ThreadShown
thread_front t = record {
  address = t.address;
  thread_id = t.thread_id;
  os_thread_id = t.os_thread_id;
  frames = frames_front t.frames;
}

-- a reader's result with the thread that its front shows
abbrev pub thread_front_result : {E : Type 0} → Result ThreadFront E → Result ThreadShown E
thread_front_result (Ok t) = Ok (thread_front t)
thread_front_result (Err e) = Err e

-- a front of threads that the code has, as the threads that it shows
abbrev pub threads_of : ThreadsFront → ThreadsShown
threads_of r = record { threads = map thread_front r.threads.items; ending = ending_of r.end }

-- a reader's result with the threads that its front shows
abbrev pub threads_result : {E : Type 0} → Result ThreadsFront E → Result ThreadsShown E
threads_result (Ok r) = Ok (threads_of r)
threads_result (Err e) = Err e

-- what stands at an address: a thread of the interpreter by its record, or why there is none
abbrev pub ThreadIs : Layout → ℕ → Found (List ℕ) → Result Thread StackError → Type 0
ThreadIs l interpreter d (Ok (At thread)) =
    (d ≡ Ok thread.items) × (after_record l interpreter d ≡ Ok (u64_in thread.items l.thread.next))
ThreadIs l interpreter d (Ok (Broken end)) =
    (why : Break) × (after_record l interpreter d ≡ Err why) × (ending_of end ≡ IsBroken why)
ThreadIs l interpreter d (Err e) = e ≡ stack.OutOfMemory

-- the same of a record that is in memory
abbrev pub RecordIs : Layout → ℕ → List ℕ → Thread → Type 0
RecordIs l interpreter bytes (At thread) = (thread.items ≡ bytes) × (u64_in bytes l.thread.interp ≡ interpreter)
RecordIs l interpreter bytes (Broken end) =
    (why : Break) × (after_record l interpreter (Ok bytes) ≡ Err why) × (ending_of end ≡ IsBroken why)

-- a record of a thread is whole
abbrev pub IsWholeThread : Layout → Thread → Type 0
IsWholeThread l (At thread) = length thread.items ≡ l.thread.size
IsWholeThread l (Broken end) = ⊤

-- the reads of one thread behind its record: six, five for each member that is met, and those of each that is shown
abbrev pub thread_reads : Asked → ThreadShown → ℕ
thread_reads q t = 6 + 5 * t.frames.met + standing_reads q * shown_of t.frames

-- those of an interpreter's threads: one for each record and one more
abbrev pub threads_reads : Asked → ThreadsShown → ℕ
threads_reads q shown = 1 + sum_by (λ (t : ThreadShown). 1 + thread_reads q t) shown.threads

-- how many these are at most, whatever the memory holds: no more members are shown than are met, and of each of 4096
-- threads twice as many as are asked for
abbrev pub threads_most : Asked → (limit left : ℕ) → ℕ
threads_most q limit left =
    1 + 7 * thread_limit + 5 * left + standing_reads q * min left (2 * limit * thread_limit)

-- what the reader of an interpreter's threads owes
abbrev pub ReadingThreads : Asked → Layout → (limit left interpreter head : ℕ) → Seen → Seen → (Memory → Type 0)
    → Type 0
ReadingThreads q l limit left interpreter head old new Q =
    ReadingBy (λ m. threads_reads q (front_shown q l m limit left (threads_front l interpreter m head))) old new Q

-- the threads that were met so far, and how many members may be met yet; it stands at `at`
pub record Threading (q : Asked) (l : Layout) (limit interpreter head before : ℕ) (old new : Seen)
    (threads : List ThreadFront) (left at : ℕ) : Type 0 where
  pub members : List ℕ
  pub spent : ℕ
  pub within : length threads ≤ thread_limit
  pub fewer : left ≤ before
  pub cost : spent ≤ sum_by (λ (t : ThreadShown). 1 + thread_reads q t) (map thread_front threads)
  pub reading : Reading spent old new (λ m. (threads_front l interpreter m head
      ≡ behind members (front_at (thread_of l interpreter m) (thread_limit - length threads) at))
      × (map thread_front threads ≡ threads_shown q l m limit before members))
  pub after : left ≡ left_after before (map thread_front threads)
