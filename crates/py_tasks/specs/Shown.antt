-- Tasks as they are told.
use Rattle.std.specs.Prelude.{ℕ, Bool, true, false, Option, Some, None, List, map}
use Rattle.py_coroutines.specs.declared.turn.AwaitEnd.{AwaitEnd}
use Rattle.py_coroutines.specs.declared.turn.AwaitEnd.TheVariants.{Stops, Cycle, Cut}
use Rattle.py_coroutines.specs.declared.turn.Stop.{Stop}
use Rattle.py_coroutines.specs.declared.turn.Stop.TheVariants.{Created, Running}
use Rattle.py_tasks.specs.declared.fault.TasksFault.{TasksFault}
use Rattle.py_tasks.specs.declared.task.Chain.{Chain}
use Rattle.py_tasks.specs.declared.task.Condition.{Condition}
use Rattle.py_tasks.specs.declared.task.Condition.TheVariants as does
use Rattle.py_tasks.specs.declared.task.Entry.{Entry}
use Rattle.py_tasks.specs.declared.task.Entry.TheVariants as entry
use Rattle.py_tasks.specs.declared.task.Member.{Member}
use Rattle.py_tasks.specs.declared.task.Task.{Task}
use Rattle.py_tasks.specs.declared.task.TaskName.{TaskName}
use Rattle.py_tasks.specs.declared.task.TaskState.{TaskState}
use Rattle.py_tasks.specs.declared.task.TaskState.TheVariants as state
use Rattle.py_tasks.specs.declared.task.TasksOf.{TasksOf}
use Rattle.py_tasks.specs.declared.task.TasksOf.TheVariants as tasks
use Rattle.py_tasks.specs.declared.task.Waiter.{Waiter}

-- a chain: its members, and how it ends
pub record ChainShown : Type 0 where
  pub members : List Member
  pub end : AwaitEnd

-- a task with what its record says (`TaskObj`), what it waits for, and the chain of what awaits what
pub record TaskShown : Type 0 where
  pub address : ℕ
  pub name : Option TaskName
  pub state : TaskState
  pub must_cancel : Bool
  pub event_loop : ℕ
  pub thread_id : Option ℕ
  pub waiter : Option Waiter
  pub chain : ChainShown

-- a registered object: a task, one of which something is lost, or another one
pub data EntryShown : Type 0 where
  TaskEntry : TaskShown → EntryShown
  LostEntry : (address : ℕ) → TasksFault → EntryShown
  OtherEntry : (address : ℕ) → (class : Option (List ℕ)) → EntryShown

-- the tasks of an interpreter: no asyncio, unknown records, another size of tasks, something lost, or what is read
pub data TasksShown : Type 0 where
  WithoutTasks : TasksShown
  TasksUnknown : TasksShown
  TasksResized : (size : ℕ) → TasksShown
  TasksLost : TasksFault → TasksShown
  TasksRead : List EntryShown → TasksShown

-- a chain that the code has, with the items of its vector
abbrev pub chain_shown : Chain → ChainShown
chain_shown c = record { members = c.members.items; end = c.end }

-- a task that the code has, with the items of its chain
abbrev pub task_shown : Task → TaskShown
task_shown t = record {
  address = t.address;
  name = t.name;
  state = t.state;
  must_cancel = t.must_cancel;
  event_loop = t.event_loop;
  thread_id = t.thread_id;
  waiter = t.waiter;
  chain = chain_shown t.chain;
}

-- an entry that the code has, as it is shown
abbrev pub entry_shown : Entry → EntryShown
entry_shown (entry.Task t) = EntryShown.TaskEntry (task_shown t)
entry_shown (entry.Lost a f) = EntryShown.LostEntry a f
entry_shown (entry.Other a class) = EntryShown.OtherEntry a class

-- the tasks of an interpreter that the code has, as they are shown
abbrev pub tasks_shown : TasksOf → TasksShown
tasks_shown tasks.Without = TasksShown.WithoutTasks
tasks_shown tasks.NotDescribed = TasksShown.TasksUnknown
tasks_shown (tasks.Resized size) = TasksShown.TasksResized size
tasks_shown (tasks.Lost f) = TasksShown.TasksLost f
tasks_shown (tasks.Read v) = TasksShown.TasksRead (map entry_shown v.items)

-- whether a future is known to be done: cancelled or finished
abbrev pub is_settled : Option TaskState → Bool
is_settled (Some state.Cancelled) = true
is_settled (Some state.Finished) = true
is_settled _ = false

-- what a task does that waits for a future, by whether that is done
abbrev pub by_settled : Bool → Condition
by_settled true = does.Ready
by_settled false = does.Waiting

-- a task that waits for nothing is ready, and so is one that waits for what is done
abbrev pub waits_by : Option Waiter → Condition
waits_by None = does.Ready
waits_by (Some w) = by_settled (is_settled w.state)

-- what a pending task does, by why its chain stops and what it waits for
abbrev pub stopped_by : Stop → Option Waiter → Condition
stopped_by Running w = does.Running
stopped_by Created w = does.NotStarted
stopped_by _ w = waits_by w

-- what a pending task does, by how its chain ends
abbrev pub ended_by : AwaitEnd → Option Waiter → Condition
ended_by (Stops why) w = stopped_by why w
ended_by (Cycle a) w = waits_by w
ended_by (Cut a) w = waits_by w

-- what a task does: done if not pending, else by how its chain ends
abbrev pub pending_by : TaskState → AwaitEnd → Option Waiter → Condition
pending_by state.Pending end w = ended_by end w
pending_by _ end w = does.Done

-- what a task does
abbrev pub condition_of : TaskShown → Condition
condition_of t = pending_by t.state t.chain.end t.waiter
