-- What a task waits for: the future that its record names (`task_fut_waiter`, Modules/_asynciomodule.c), and whether
-- that is one of the C module, which its type says.
use Rattle.std.specs.Prelude.{ℕ, ◌+◌, nat_eq, Bool, true, false, Option, Some, None, List, Ok, if◌then◌else◌}
use Rattle.process_memory.specs.Memory.{Memory, Found, ◌>>=◌, word_at}
use Rattle.py_fields.specs.declared.layout.Layout.{Layout}
use Rattle.py_tasks.specs.declared.described.TaskPlaces.{TaskPlaces}
use Rattle.py_tasks.specs.declared.described.TaskTypes.{TaskTypes}
use Rattle.py_tasks.specs.declared.task.TaskState.{TaskState}
use Rattle.py_tasks.specs.declared.task.Waiter.{Waiter}
use Rattle.py_tasks.specs.Bases.{leads_at}
use Rattle.py_tasks.specs.Faults.{found_or_none}
use Rattle.py_tasks.specs.Fields.{state_at}
use Rattle.py_tasks.specs.Names.{class_at}

-- the state of an object, if it is a future of the C module
unfoldable pub state_if : TaskPlaces → Memory → Bool → ℕ → Found (Option TaskState)
state_if p m false a = Ok None
state_if p m true a = do
  state ← state_at p m a
  Ok (Some state)

-- the state of the object at an address, if it is a future: its type leads to theirs by 64 bases at most
unfoldable pub future_state_at : Layout → TaskPlaces → TaskTypes → Memory → ℕ → Found (Option TaskState)
future_state_at l p t m a = do
  class ← word_at m (a + l.object.klass)
  is ← leads_at p.base m class t.future 64
  state_if p m is a

-- what a task waits for, with its class's name and its state
abbrev pub waiter : ℕ → Option (List ℕ) → Option TaskState → Waiter
waiter a class state = record { address = a; class = class; state = state }

-- the state of what a task waits for; none also where it can't be read
unfoldable pub known_state_at : Layout → TaskPlaces → TaskTypes → Memory → ℕ → Found (Option TaskState)
known_state_at l p t m a = Ok (found_or_none (future_state_at l p t m a))

-- what a task waits for, at an address that isn't 0
unfoldable pub some_waiter_at : Layout → TaskPlaces → TaskTypes → Memory → ℕ → Found (Option Waiter)
some_waiter_at l p t m a = do
  class ← class_at l m a
  state ← known_state_at l p t m a
  Ok (Some (waiter a class state))

-- what a task waits for; 0 is none
unfoldable pub waiter_at : Layout → TaskPlaces → TaskTypes → Memory → ℕ → Found (Option Waiter)
waiter_at l p t m a = if nat_eq a 0 then Ok None else some_waiter_at l p t m a
