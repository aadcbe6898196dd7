-- What a task's record says (`FutureObj`, `TaskObj`, Modules/_asynciomodule.c).
use Rattle.std.specs.Prelude.{ℕ, ◌+◌, ◌/◌, ◌%◌, ◌^◌, nat_eq, nat_le, Bool, false, Ok, if◌then◌else◌}
use Rattle.process_memory.specs.Memory.{Memory, Found, ◌>>=◌, word_at}
use Rattle.py_tasks.specs.declared.described.TaskPlaces.{TaskPlaces}
use Rattle.py_tasks.specs.declared.fields.Fields.{Fields}
use Rattle.py_tasks.specs.declared.task.TaskState.{TaskState}
use Rattle.py_tasks.specs.declared.task.TaskState.TheVariants.{Pending, Cancelled, Finished, Other}

-- the state that a number says (`fut_state`)
unfoldable pub state_by : ℕ → TaskState
state_by n =
    if nat_eq n 0 then Pending else if nat_eq n 1 then Cancelled else if nat_eq n 2 then Finished else Other n

-- it has 4 bytes
abbrev pub state_of : ℕ → TaskState
state_of word = state_by (word % 2 ^ 32)

-- whether the lowest byte of a word has a bit
unfoldable pub has_bit : ℕ → ℕ → Bool
has_bit word bit = if nat_le 8 bit then false else nat_eq (word / 2 ^ bit % 2) 1

-- the state of the future or task at an address (`fut_state`)
unfoldable pub state_at : TaskPlaces → Memory → ℕ → Found TaskState
state_at p m a = do
  word ← word_at m (a + p.state)
  Ok (state_of word)

-- what the record of a task says, field by field
abbrev pub fields : TaskState → Bool → ℕ → ℕ → ℕ → Fields
fields state must_cancel event_loop waiter coro = record {
  state = state;
  must_cancel = must_cancel;
  event_loop = event_loop;
  waiter = waiter;
  coro = coro;
}

-- what the record of the task at an address says
unfoldable pub fields_at : TaskPlaces → Memory → ℕ → Found Fields
fields_at p m a = do
  state ← state_at p m a
  cancel ← word_at m (a + p.cancel)
  event_loop ← word_at m (a + p.event_loop)
  waiter ← word_at m (a + p.waiter)
  coro ← word_at m (a + p.coro)
  Ok (fields state (has_bit cancel p.cancel_bit) event_loop waiter coro)
