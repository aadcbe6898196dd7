-- The lines of threads that wait: of each what it waits for. Ids are written as the lines of stacks have them.
use Rattle.std.specs.Prelude.{ℕ, ◌++◌, true, false, List, [], map, Option, Some, None, codes}
use Rattle.std.specs.Fmt.{digits}
use Rattle.std.specs.List.{concat}
use Rattle.py_waits.specs.declared.told.InterpreterWaits.{InterpreterWaits}
use Rattle.py_waits.specs.declared.told.ThreadWait.{ThreadWait}
use Rattle.py_waits.specs.declared.wait.Wait.{Wait}
use Rattle.py_waits.specs.declared.wait.Wait.TheVariants.{Interpreter, Lock, Rlock, Queue}

-- which thread holds a reentrant lock, where that is known
abbrev pub owner_text : Option ℕ → List ℕ
owner_text None = []
owner_text (Some owner) = codes " of thread 0x" ++ digits 16 true owner

-- a reentrant lock by its address
abbrev pub rlock_text : ℕ → List ℕ
rlock_text a = codes "RLock 0x" ++ digits 16 false a

-- what a thread waits for
abbrev pub wait_text : Wait → List ℕ
wait_text Interpreter = codes "the GIL"
wait_text (Lock a) = codes "Lock 0x" ++ digits 16 false a
wait_text (Queue a) = codes "SimpleQueue 0x" ++ digits 16 false a
wait_text (Rlock a owner) = rlock_text a ++ owner_text owner

-- the begin of a thread's line, with its id
abbrev pub lead_text : ℕ → List ℕ
lead_text id = codes "Thread 0x" ++ (digits 16 true id ++ codes " waits for ")

-- the line of a thread that waits
abbrev pub line_text : ℕ → Wait → List ℕ
line_text id wait = lead_text id ++ (wait_text wait ++ codes "\n")

-- the line of a thread; none where it isn't known to wait
abbrev pub thread_by : ℕ → Option Wait → List ℕ
thread_by id None = []
thread_by id (Some wait) = line_text id wait

-- the line of a thread, if it is known to wait
abbrev pub thread_text : ThreadWait → List ℕ
thread_text t = thread_by t.thread_id t.wait

-- the lines of an interpreter's threads that wait, in order
abbrev pub threads_text : List ThreadWait → List ℕ
threads_text threads = concat (map (λ t. thread_text t) threads)

-- the lines of all interpreters' threads that wait, in order
abbrev pub waits_text : List InterpreterWaits → List ℕ
waits_text waits = concat (map (λ (i : InterpreterWaits). threads_text i.threads.items) waits)
