-- The test of an address that may be an interpreter's: its first thread names it, and its threads can be walked.
use Rattle.std.specs.Prelude.{◌≡◌, ℕ, ◌+◌, ◌*◌, nat_eq, Bool, true, false, MatchOption, List, Result, Ok, Err}
use Rattle.std.specs.Prelude.{if◌then◌else◌}
use Rattle.elf64_core.specs.Fields.{u64_in}
use Rattle.process_memory.specs.Memory.{Memory, Found, ◌>>=◌, record_at, word_at}
use Rattle.py_fields.specs.declared.layout.Layout.{Layout}
use Rattle.py_stacks.specs.declared.error.StackError.{StackError}
use Rattle.py_stacks.specs.declared.error.StackError.TheVariants.{OutOfMemory}
use Rattle.py_stacks.specs.StackError.{stack_fault}
use Rattle.py_stacks.specs.Asking.{nothing}
use Rattle.py_stacks.specs.Met.{members_met, threads_met}
use Rattle.py_stacks.specs.Threads.{AreTraces, Trace, traces_at, traces_cost}

-- the first thread of the interpreter at an address
abbrev pub threads_head : Layout → Memory → ℕ → Found ℕ
threads_head l m a = word_at m (a + l.interpreter.threads)

-- the interpreter that the thread at an address names
unfoldable pub interpreter_named_by : Layout → Memory → ℕ → Found ℕ
interpreter_named_by l m head = do
  thread ← record_at m head l.thread.size
  Ok (u64_in thread l.thread.interp)

-- the interpreter that an interpreter's first thread names
unfoldable pub named_at : Layout → Memory → ℕ → Found ℕ
named_at l m a = do
  head ← threads_head l m a
  interpreter_named_by l m head

-- whether something was found, and no fault
abbrev pub was_found : {T : Type 0} → Found T → Bool
was_found (Ok x) = true
was_found (Err f) = false

-- whether the address passes, by the interpreter that its first thread names
abbrev pub passes_named : Layout → Memory → ℕ → Found ℕ → Bool
passes_named l m a (Err f) = false
passes_named l m a (Ok named) = if nat_eq named a then was_found (traces_at nothing l m a) else false

-- whether an address passes for an interpreter's
unfoldable pub passes : Layout → Memory → ℕ → Bool
passes l m a = passes_named l m a (named_at l m a)

-- the same, where the first thread is known
unfoldable pub passes_from : Layout → Memory → ℕ → ℕ → Bool
passes_from l m a head = passes_named l m a (interpreter_named_by l m head)

-- what is counted of the walk, where it is made
abbrev pub where_named : ℕ → ℕ → Found ℕ → ℕ
where_named n a (Err f) = 0
where_named n a (Ok named) = if nat_eq named a then n else 0

-- how many reads the test takes at most: two, and those of the walk where it is made
unfoldable pub test_cost : Layout → Memory → ℕ → ℕ
test_cost l m a = 2 + where_named (traces_cost nothing l m a) a (named_at l m a)

-- how many threads the test meets
unfoldable pub threads_tested : Layout → Memory → ℕ → ℕ
threads_tested l m a = where_named (threads_met nothing l m a) a (named_at l m a)

-- how many members of their chains the test meets
unfoldable pub members_tested : Layout → Memory → ℕ → ℕ
members_tested l m a = where_named (members_met nothing l m a) a (named_at l m a)

-- at most 3 reads, 2 for each thread that the test meets, and 6 for each member
abbrev pub test_bound : Layout → Memory → ℕ → ℕ
test_bound l m a = 3 + 2 * threads_tested l m a + 6 * members_tested l m a

-- the same, where the first thread is known: one read less
unfoldable pub cost_from : Layout → Memory → ℕ → ℕ → ℕ
cost_from l m a head = 1 + where_named (traces_cost nothing l m a) a (interpreter_named_by l m head)

-- how many threads the test meets, where the first one is known
unfoldable pub threads_from : Layout → Memory → ℕ → ℕ → ℕ
threads_from l m a head = where_named (threads_met nothing l m a) a (interpreter_named_by l m head)

-- how many members of their chains it meets then
unfoldable pub members_from : Layout → Memory → ℕ → ℕ → ℕ
members_from l m a head = where_named (members_met nothing l m a) a (interpreter_named_by l m head)

-- at most 2 reads then, 2 for each thread that the test meets, and 6 for each member
abbrev pub bound_from : Layout → Memory → ℕ → ℕ → ℕ
bound_from l m a head = 2 + 2 * threads_from l m a head + 6 * members_from l m a head

-- a fault refuses the address, and out of memory is handed on
abbrev pub RefusesAddress : StackError → Result Bool StackError → Type 0
RefusesAddress e result = MatchOption (stack_fault e) (result ≡ Err OutOfMemory) (λ f. result ≡ Ok false)

-- ---- in the subject's own words

-- its first thread names it, and there is a list of traces of its whole chain of threads
pub record IsInterpreter (l : Layout) (m : Memory) (a : ℕ) : Type 0 where
  pub named : named_at l m a ≡ Ok a
  pub traces : List Trace
  pub are : AreTraces nothing l m a traces

-- the same of an address and the head of its threads: the thread there names it
pub record IsInterpreterFrom (l : Layout) (m : Memory) (a head : ℕ) : Type 0 where
  pub named : interpreter_named_by l m head ≡ Ok a
  pub traces : List Trace
  pub are : AreTraces nothing l m a traces
