-- The lines that begin a task.
use Rattle.std.specs.Prelude.{ℕ, ◌++◌, Bool, true, false, if◌then◌else◌, List, [], Option, Some, None, codes, decimal}
use Rattle.std.specs.Fmt.{digits}
use Rattle.salvage_texts.specs.Ends.{missing_text}
use Rattle.salvage_texts.specs.Escape.{escaped}
use Rattle.py_tasks.specs.declared.fault.TasksFault.{TasksFault}
use Rattle.py_tasks.specs.declared.fault.TasksFault.TheVariants.{Unreadable, TooMany, Malformed}
use Rattle.py_tasks.specs.declared.task.Condition.{Condition}
use Rattle.py_tasks.specs.declared.task.Condition.TheVariants.{Done, Running, NotStarted, Ready, Waiting}
use Rattle.py_tasks.specs.declared.task.TaskName.{TaskName}
use Rattle.py_tasks.specs.declared.task.TaskName.TheVariants.{Text, Number}
use Rattle.py_tasks.specs.declared.task.Waiter.{Waiter}
use Rattle.py_tasks.specs.Shown.{TaskShown, condition_of}
use Rattle.task_texts.specs.Members.{name_text}

-- a task's name in quotes, with quotes, backslashes and control characters escaped
abbrev pub quoted_text : List ℕ → List ℕ
quoted_text name = codes "\"" ++ (escaped true name ++ codes "\"")

-- a task's name, or its address; one that was given no name is called by its number, as CPython does
abbrev pub own_name_text : Option TaskName → ℕ → List ℕ
own_name_text None a = codes "0x" ++ digits 16 false a
own_name_text (Some (Text name)) a = quoted_text name
own_name_text (Some (Number n)) a = codes "\"Task-" ++ (decimal n ++ codes "\"")

-- that a task runs, and in which thread, where that is known
abbrev pub thread_text : Option ℕ → List ℕ
thread_text None = codes "running"
thread_text (Some id) = codes "running in thread 0x" ++ digits 16 true id

-- the class of what a task waits for; that it is ready where it waits for nothing
abbrev pub waiter_text : Option Waiter → List ℕ
waiter_text None = codes "ready"
waiter_text (Some w) = codes "waits for " ++ name_text w.class

-- what a task in this condition does
abbrev pub does_text : Condition → Option ℕ → Option Waiter → List ℕ
does_text Done thread w = codes "done"
does_text Running thread w = thread_text thread
does_text NotStarted thread w = codes "not started"
does_text Ready thread w = codes "ready"
does_text Waiting thread w = waiter_text w

-- what a task does
abbrev pub condition_text : TaskShown → List ℕ
condition_text t = does_text (condition_of t) t.thread_id t.waiter

-- that a task is to be cancelled, where it is
abbrev pub cancel_text : Bool → List ℕ
cancel_text must_cancel = if must_cancel then codes ", to be cancelled" else []

-- the first line of a task: its name, what it does, and whether it is to be cancelled
abbrev pub head_text : TaskShown → List ℕ
head_text t = codes "Task " ++ (own_name_text t.name t.address ++ (codes " (" ++ (condition_text t
    ++ (cancel_text t.must_cancel ++ codes ")\n"))))

-- why something of tasks is not told
abbrev pub fault_text : TasksFault → List ℕ
fault_text (Unreadable a n) = missing_text a n
fault_text TooMany = codes "there are more than are looked at"
fault_text Malformed = codes "something on the way is not what it has to be"
