-- One task: what its record says, and what that leads to.
use Rattle.std.specs.Prelude.{ℕ, Bool, true, false, Option, Some, None, Result, Ok, Err, codes}
use Rattle.std.specs.Int.{w64, cast_unsigned}
use Rattle.process_memory.specs.Memory.{Memory, Found, ◌>>=◌}
use Rattle.py_fields.specs.declared.layout.Layout.{Layout}
use Rattle.py_builtins.specs.Integers.{long_at}
use Rattle.py_coroutines.specs.declared.turn.AwaitEnd.{AwaitEnd}
use Rattle.py_coroutines.specs.declared.turn.AwaitEnd.TheVariants.{Stops, Cycle, Cut}
use Rattle.py_coroutines.specs.declared.turn.Stop.{Stop}
use Rattle.py_coroutines.specs.declared.turn.Stop.TheVariants.{Running}
use Rattle.task_sets.specs.declared.places.RootPlaces.{RootPlaces}
use Rattle.task_sets.specs.Named.{attribute_at}
use Rattle.py_tasks.specs.declared.described.Described.{Described}
use Rattle.py_tasks.specs.declared.fields.Fields.{Fields}
use Rattle.py_tasks.specs.declared.task.Task.{Task}
use Rattle.py_tasks.specs.declared.task.TaskName.{TaskName}
use Rattle.py_tasks.specs.declared.task.TaskState.{TaskState}
use Rattle.py_tasks.specs.declared.task.TaskState.TheVariants.{Pending}
use Rattle.py_tasks.specs.declared.task.Waiter.{Waiter}
use Rattle.py_tasks.specs.Chains.{chain_at}
use Rattle.py_tasks.specs.Faults.{found_or_none}
use Rattle.py_tasks.specs.Fields.{fields_at}
use Rattle.py_tasks.specs.Names.{name_at}
use Rattle.py_tasks.specs.Shown.{ChainShown, TaskShown, task_shown}
use Rattle.py_tasks.specs.Waiters.{waiter_at}

-- the id that the integer at an address is; none where there is no address
unfoldable pub thread_number_at : Layout → Memory → Option ℕ → Found (Option ℕ)
thread_number_at l m None = Ok None
thread_number_at l m (Some a) = do
  number ← long_at l m a
  Ok (Some (cast_unsigned w64 number.0))

-- the id of the thread in which a loop runs: its `_thread_id` (Lib/asyncio/base_events.py)
unfoldable pub loop_thread_at : Layout → RootPlaces → Memory → ℕ → Found (Option ℕ)
loop_thread_at l p m event_loop = do
  number ← attribute_at l p m (codes "_thread_id") event_loop
  thread_number_at l m number

-- whether a chain stops at a coroutine that runs
abbrev pub stops_running : Stop → Bool
stops_running Running = true
stops_running _ = false

-- whether a chain ends at a coroutine that runs
abbrev pub ends_running : AwaitEnd → Bool
ends_running (Stops why) = stops_running why
ends_running (Cycle a) = false
ends_running (Cut a) = false

-- a pending task runs where its chain ends at a coroutine that does
abbrev pub is_running : TaskState → AwaitEnd → Bool
is_running Pending end = ends_running end
is_running _ end = false

-- the id of the thread that runs a task, where it runs; by its loop, none where that can't be read
unfoldable pub thread_at : Layout → RootPlaces → Memory → Bool → ℕ → Found (Option ℕ)
thread_at l p m false event_loop = Ok None
thread_at l p m true event_loop = Ok (found_or_none (loop_thread_at l p m event_loop))

-- a task with its parts
abbrev pub task_with : ℕ → Option TaskName → Fields → Option ℕ → Option Waiter → ChainShown → TaskShown
task_with a name fields thread waiter chain = record {
  address = a;
  name = name;
  state = fields.state;
  must_cancel = fields.must_cancel;
  event_loop = fields.event_loop;
  thread_id = thread;
  waiter = waiter;
  chain = chain;
}

-- a reader's result with a task as it is shown
abbrev pub task_result : {E : Type 0} → Result Task E → Result TaskShown E
task_result (Ok t) = Ok (task_shown t)
task_result (Err e) = Err e

-- the task at an address, of whose chain so many members are met at most
unfoldable pub task_at : Layout → Described → Memory → ℕ → ℕ → Found TaskShown
task_at l d m limit a = do
  fields ← fields_at d.places m a
  name ← name_at l m d.places.name a
  waiter ← waiter_at l d.places d.types m fields.waiter
  chain ← chain_at l d.awaits m limit fields.coro
  thread ← thread_at l d.roots m (is_running fields.state chain.end) fields.event_loop
  Ok (task_with a name fields thread waiter chain)
