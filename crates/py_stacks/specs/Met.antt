-- How many threads and members a walk meets before it ends, and how many variables it reads: what the bounds on
-- its reads count.
use Rattle.std.specs.Prelude.{ℕ, ◌+◌, ◌*◌, nat_lt, Bool, true, false, if◌then◌else◌, Option, Some, None}
use Rattle.process_memory.specs.Memory.{Memory, ◌>>=◌, record_at, word_at}
use Rattle.process_memory.specs.Walk.{walk_cost}
use Rattle.py_fields.specs.declared.layout.Layout.{Layout}
use Rattle.py_stacks.specs.declared.asked.Asked.{Asked}
use Rattle.py_stacks.specs.Frames.{Call, cost_after, extra_cost, frame_limit, frame_step, member_limit, plain_by}
use Rattle.py_stacks.specs.Frames.{records_at}
use Rattle.py_stacks.specs.Locals.{locals_read}
use Rattle.py_stacks.specs.Member.{MemberAt}
use Rattle.py_stacks.specs.Holder.{holder_id_at}
use Rattle.py_stacks.specs.Threads.{first_frame_at, thread_limit, thread_step}

-- the members of a thread's chain that are met
unfoldable pub frames_met : Asked → Layout → Memory → ℕ → ℕ
frames_met q l m first = walk_cost (frame_step q l m) (λ kept a. 1) member_limit 0 first

-- the reads of their details
unfoldable pub frames_extra : Asked → Layout → Memory → ℕ → ℕ
frames_extra q l m first = walk_cost (frame_step q l m) (extra_cost q l m) member_limit 0 first

-- the variables that are read of a member, where it is kept
abbrev pub part_locals : Asked → Layout → ℕ → MemberAt → Option Call → ℕ
part_locals q l kept r None = 0
part_locals q l kept r (Some c) = if nat_lt kept frame_limit then locals_read q.locals l r else 0

-- the same by the address of a member, where so many are kept
unfoldable pub member_locals : Asked → Layout → Memory → ℕ → ℕ → ℕ
member_locals q l m kept a = cost_after (records_at l m a) (λ r. part_locals q l kept r (plain_by l m r))

-- the variables that are read of a thread's frames
unfoldable pub frames_locals : Asked → Layout → Memory → ℕ → ℕ
frames_locals q l m first = walk_cost (frame_step q l m) (member_locals q l m) member_limit 0 first

-- what one thread adds, by its first frame
abbrev pub of_thread : (ℕ → ℕ) → Layout → Memory → Unit {0} → ℕ → ℕ
of_thread count l m s a = cost_after (record_at m a l.thread.size >>= first_frame_at l m) count

-- the sum over an interpreter's threads that are met
abbrev pub over_threads : Asked → Layout → Memory → (Unit {0} → ℕ → ℕ) → ℕ → ℕ
over_threads q l m count interpreter = cost_after (word_at m (interpreter + l.interpreter.threads))
    (λ head. walk_cost (thread_step q l m) count thread_limit tt head)

-- how many threads of an interpreter are met
unfoldable pub threads_met : Asked → Layout → Memory → ℕ → ℕ
threads_met q l m interpreter = over_threads q l m (λ s a. 1) interpreter

-- how many members of all their chains are met
unfoldable pub members_met : Asked → Layout → Memory → ℕ → ℕ
members_met q l m interpreter = over_threads q l m (of_thread (frames_met q l m) l m) interpreter

-- the reads of the details of all their members
unfoldable pub details_cost : Asked → Layout → Memory → ℕ → ℕ
details_cost q l m interpreter = over_threads q l m (of_thread (frames_extra q l m) l m) interpreter

-- the variables that are read of all their members: the sum of the counts of those that are kept, where it is
-- asked for locals and so many can be
unfoldable pub locals_met : Asked → Layout → Memory → ℕ → ℕ
locals_met q l m interpreter = over_threads q l m (of_thread (frames_locals q l m) l m) interpreter

-- how many reads the variables of one member take at most
abbrev pub locals_most : Bool → ℕ
locals_most false = 0
locals_most true = 4 * 65535

-- how many reads the trace of a thread takes at most, whatever the memory holds: two for the thread, six for each
-- member that can be met; and for each that can be kept two for its line, one for its tuple of names, and those of its
-- variables
abbrev pub trace_most : Bool → ℕ
trace_most locals = 2 + 6 * member_limit + frame_limit * (3 + locals_most locals)

-- and those of an interpreter: three for the holder of its lock and its first thread, and those of each thread
abbrev pub traces_most : Bool → ℕ
traces_most locals = 3 + thread_limit * trace_most locals

-- what is counted of the walk behind the holder of a lock, which ends where the holder can't be read
abbrev pub where_held : Layout → Memory → ℕ → ℕ → ℕ
where_held l m lock n = cost_after (holder_id_at l m lock) (λ holder_id. n)

-- the threads, the members, the reads of their details and the variables that the stacks meet before they end
unfoldable pub threads_walked : Asked → Layout → Memory → (lock interpreter : ℕ) → ℕ
threads_walked q l m lock interpreter = where_held l m lock (threads_met q l m interpreter)

-- the members that the stacks meet; 0 where the lock's holder can't be read
unfoldable pub members_walked : Asked → Layout → Memory → (lock interpreter : ℕ) → ℕ
members_walked q l m lock interpreter = where_held l m lock (members_met q l m interpreter)

-- the reads of their details; 0 where the lock's holder can't be read
unfoldable pub details_walked : Asked → Layout → Memory → (lock interpreter : ℕ) → ℕ
details_walked q l m lock interpreter = where_held l m lock (details_cost q l m interpreter)

-- the variables that the stacks meet; 0 where the lock's holder can't be read
unfoldable pub locals_walked : Asked → Layout → Memory → (lock interpreter : ℕ) → ℕ
locals_walked q l m lock interpreter = where_held l m lock (locals_met q l m interpreter)

-- at most 3 reads, 2 for each thread that is met, 6 for each member, and those of the details
abbrev pub stacks_bound : Asked → Layout → Memory → (lock interpreter : ℕ) → ℕ
stacks_bound q l m lock interpreter =
    3 + 2 * threads_walked q l m lock interpreter + 6 * members_walked q l m lock interpreter
    + details_walked q l m lock interpreter

-- the members, the reads of their details and the variables that the stack of one thread meets before it ends
unfoldable pub thread_members : Asked → Layout → Memory → ℕ → ℕ
thread_members q l m thread = of_thread (frames_met q l m) l m tt thread

-- the reads of the details that the stack of one thread takes
unfoldable pub thread_details : Asked → Layout → Memory → ℕ → ℕ
thread_details q l m thread = of_thread (frames_extra q l m) l m tt thread

-- the variables that the stack of one thread meets
unfoldable pub thread_locals : Asked → Layout → Memory → ℕ → ℕ
thread_locals q l m thread = of_thread (frames_locals q l m) l m tt thread

-- at most 2 reads for the thread, 6 for each member that is met, and those of the details
abbrev pub thread_bound : Asked → Layout → Memory → ℕ → ℕ
thread_bound q l m thread = 2 + 6 * thread_members q l m thread + thread_details q l m thread
