-- Futures, tasks and handles of asyncio; when the groups of these are sound, and what a table says of them.
-- From the structs of CPython that the groups' docs name; the form of the file is this project's own.
use Rattle.std.specs.Prelude.{Bool, List, [], ◌∷◌, None, IfSome, is_some, option_map, codes}
use Rattle.std.specs.Option.{option_or}
use Rattle.toml.specs.Data.{Members}
use Rattle.py_layout.specs.Values.{group_at, number_at}
use Rattle.py_fields.specs.Places.{Place}
use Rattle.py_fields.specs.Sound.{IsRecord}
use Rattle.py_records.specs.Places.{ArePlain, any_both}
use Rattle.py_records.specs.declared.tasks.FutureRecord.{FutureRecord}
use Rattle.py_records.specs.declared.tasks.TaskRecord.{TaskRecord}
use Rattle.py_records.specs.declared.tasks.TaskNameRecord.{TaskNameRecord}
use Rattle.py_records.specs.declared.tasks.CarrierRecord.{CarrierRecord}
use Rattle.py_records.specs.declared.tasks.HandleRecord.{HandleRecord}
use Rattle.py_records.specs.declared.tasks.TimerHandleRecord.{TimerHandleRecord}
use Rattle.py_records.specs.declared.tasks.TaskRecords.{TaskRecords}

-- offsets and widths, in bytes, in a `FutureObj`: `fut_loop`, `fut_callback0`, `fut_state` and the like
unfoldable pub future_places : FutureRecord → List Place
future_places r = (r.event_loop, 8) ∷ (r.callback0, 8) ∷ (r.callbacks, 8) ∷ (r.exception, 8) ∷ (r.result, 8)
    ∷ (r.state, 4) ∷ []

-- a `FutureObj`: its fields stand inside its size, of 1 to 65535 bytes, and no two meet
abbrev pub IsSoundFuture : FutureRecord → Type 0
IsSoundFuture r = IsRecord r.size (future_places r)

-- offsets and widths, in bytes, in a `TaskObj`: `task_fut_waiter`, `task_coro`, `task_must_cancel`
unfoldable pub task_places : TaskRecord → List Place
task_places r = (r.waiter, 8) ∷ (r.coro, 8) ∷ (r.cancel, 1) ∷ []

-- a `TaskObj`: its fields stand inside its size, and no two meet; the number of the cancel bit is below 2^20
pub record IsSoundTask (r : TaskRecord) : Type 0 where
  pub fields : IsRecord r.size (task_places r)
  pub constants : ArePlain (r.cancel_bit ∷ [])

-- the offset of `task_name` in a `TaskObj` is below 2^20
abbrev pub IsSoundTaskName : TaskNameRecord → Type 0
IsSoundTaskName r = ArePlain (r.name ∷ [])

-- offset and width, in bytes, of the address of the future or task that an object of asyncio holds
unfoldable pub carrier_places : CarrierRecord → List Place
carrier_places r = (r.held, 8) ∷ []

-- an object that holds a future or task: that one's address stands inside its size, of 1 to 65535 bytes
abbrev pub IsSoundCarrier : CarrierRecord → Type 0
IsSoundCarrier r = IsRecord r.size (carrier_places r)

-- offsets and widths, in bytes, in a `Handle`: the slots `_args`, `_callback`, `_cancelled`
unfoldable pub handle_places : HandleRecord → List Place
handle_places r = (r.args, 8) ∷ (r.callback, 8) ∷ (r.cancelled, 8) ∷ []

-- a `Handle`: its fields stand inside its size, of 1 to 65535 bytes, and no two meet
abbrev pub IsSoundHandle : HandleRecord → Type 0
IsSoundHandle r = IsRecord r.size (handle_places r)

-- offset and width, in bytes, of the slot `_when` in a `TimerHandle`
unfoldable pub timer_handle_places : TimerHandleRecord → List Place
timer_handle_places r = (r.when, 8) ∷ []

-- a `TimerHandle`: its field stands inside its size, of 1 to 65535 bytes
abbrev pub IsSoundTimerHandle : TimerHandleRecord → Type 0
IsSoundTimerHandle r = IsRecord r.size (timer_handle_places r)

-- each group of futures, tasks and handles of asyncio that is there is sound
pub record AreSoundTasks (r : TaskRecords) : Type 0 where
  pub future : IfSome r.future IsSoundFuture
  pub task : IfSome r.task IsSoundTask
  pub task_name : IfSome r.task_name IsSoundTaskName
  pub future_iter : IfSome r.future_iter IsSoundCarrier
  pub task_step : IfSome r.task_step IsSoundCarrier
  pub task_wakeup : IfSome r.task_wakeup IsSoundCarrier
  pub handle : IfSome r.handle IsSoundHandle
  pub timer_handle : IfSome r.timer_handle IsSoundTimerHandle

-- the group `future`: size and field offsets of a `FutureObj` (Modules/_asynciomodule.c)
abbrev pub future_in : Members → FutureRecord
future_in ms = record {
  size = number_at ms None (codes "size");
  event_loop = number_at ms None (codes "loop");
  callback0 = number_at ms None (codes "callback0");
  callbacks = number_at ms None (codes "callbacks");
  exception = number_at ms None (codes "exception");
  result = number_at ms None (codes "result");
  state = number_at ms None (codes "state");
}

-- the group `task`: size and field offsets of a `TaskObj` (Modules/_asynciomodule.c), and the cancel bit
abbrev pub task_in : Members → TaskRecord
task_in ms = record {
  size = number_at ms None (codes "size");
  waiter = number_at ms None (codes "waiter");
  coro = number_at ms None (codes "coro");
  cancel = number_at ms None (codes "cancel");
  cancel_bit = number_at ms None (codes "cancel_bit");
}

-- the group `task_name`: the offset of `task_name` in a `TaskObj` from 3.8 on
abbrev pub task_name_in : Members → TaskNameRecord
task_name_in ms = record {
  name = number_at ms None (codes "name");
}

-- the group of an object that holds a future or task (such as `futureiterobject`): its size and that address's offset
abbrev pub carrier_in : Members → CarrierRecord
carrier_in ms = record {
  size = number_at ms None (codes "size");
  held = number_at ms None (codes "held");
}

-- the group `handle`: size and field offsets of a `Handle` (Lib/asyncio/events.py)
abbrev pub handle_in : Members → HandleRecord
handle_in ms = record {
  size = number_at ms None (codes "size");
  args = number_at ms None (codes "args");
  callback = number_at ms None (codes "callback");
  cancelled = number_at ms None (codes "cancelled");
}

-- the group `timer_handle`: size and the field's offset of a `TimerHandle` (Lib/asyncio/events.py)
abbrev pub timer_handle_in : Members → TimerHandleRecord
timer_handle_in ms = record {
  size = number_at ms None (codes "size");
  when = number_at ms None (codes "when");
}

-- the groups of futures, tasks and handles of asyncio that a table has
unfoldable pub tasks_from : Members → TaskRecords
tasks_from ms = record {
  future = option_map future_in (group_at ms (codes "future"));
  task = option_map task_in (group_at ms (codes "task"));
  task_name = option_map task_name_in (group_at ms (codes "task_name"));
  future_iter = option_map carrier_in (group_at ms (codes "future_iter"));
  task_step = option_map carrier_in (group_at ms (codes "task_step"));
  task_wakeup = option_map carrier_in (group_at ms (codes "task_wakeup"));
  handle = option_map handle_in (group_at ms (codes "handle"));
  timer_handle = option_map timer_handle_in (group_at ms (codes "timer_handle"));
}

-- no group is there
abbrev pub no_tasks : TaskRecords
no_tasks = record {
  future = None;
  task = None;
  task_name = None;
  future_iter = None;
  task_step = None;
  task_wakeup = None;
  handle = None;
  timer_handle = None;
}

-- each group of the first that is there, and else of the second
unfoldable pub joined_tasks : TaskRecords → TaskRecords → TaskRecords
joined_tasks a b = record {
  future = option_or a.future b.future;
  task = option_or a.task b.task;
  task_name = option_or a.task_name b.task_name;
  future_iter = option_or a.future_iter b.future_iter;
  task_step = option_or a.task_step b.task_step;
  task_wakeup = option_or a.task_wakeup b.task_wakeup;
  handle = option_or a.handle b.handle;
  timer_handle = option_or a.timer_handle b.timer_handle;
}

-- whether a group is there in both
unfoldable pub share_tasks : TaskRecords → TaskRecords → Bool
share_tasks a b = any_both (is_some a.future ∷ is_some a.task ∷ is_some a.task_name ∷ is_some a.future_iter
    ∷ is_some a.task_step ∷ is_some a.task_wakeup ∷ is_some a.handle ∷ is_some a.timer_handle ∷ [])
    (is_some b.future ∷ is_some b.task ∷ is_some b.task_name ∷ is_some b.future_iter ∷ is_some b.task_step
    ∷ is_some b.task_wakeup ∷ is_some b.handle ∷ is_some b.timer_handle ∷ [])
