-- The words of the JSON of tasks.
use Rattle.std.specs.Prelude.{ℕ, List, Option, Some, None, codes}
use Rattle.py_coroutines.specs.declared.kinds.Kind.{Kind}
use Rattle.py_coroutines.specs.declared.kinds.Kind.TheVariants.{Coroutine, Generator, AsyncGenerator}
use Rattle.py_tasks.specs.declared.task.Condition.{Condition}
use Rattle.py_tasks.specs.declared.task.Condition.TheVariants as does
use Rattle.py_tasks.specs.declared.task.TaskState.{TaskState}
use Rattle.py_tasks.specs.declared.task.TaskState.TheVariants as state

-- what a future or a task says of itself
abbrev pub state_word : TaskState → List ℕ
state_word state.Pending = codes "pending"
state_word state.Cancelled = codes "cancelled"
state_word state.Finished = codes "finished"
state_word (state.Other n) = codes "unknown"

-- what a task does
abbrev pub condition_word : Condition → List ℕ
condition_word does.Done = codes "done"
condition_word does.Running = codes "running"
condition_word does.NotStarted = codes "not started"
condition_word does.Ready = codes "ready"
condition_word does.Waiting = codes "waiting"

-- what a member is
abbrev pub kind_word : Option Kind → List ℕ
kind_word None = codes "between"
kind_word (Some Coroutine) = codes "coroutine"
kind_word (Some Generator) = codes "generator"
kind_word (Some AsyncGenerator) = codes "async generator"
