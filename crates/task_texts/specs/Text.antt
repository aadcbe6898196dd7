-- The lines of tasks.
use Rattle.std.specs.Prelude.{ℕ, ◌++◌, ◌==◌, ◌&&◌, nat_lt, Bool, true, false, if◌then◌else◌, List, [], length, map}
use Rattle.std.specs.Prelude.{Option, Some, None, codes, decimal}
use Rattle.std.specs.Fmt.{digits}
use Rattle.std.specs.List.{concat}
use Rattle.py_tasks.specs.declared.fault.TasksFault.{TasksFault}
use Rattle.py_tasks.specs.declared.frameworks.Frameworks.{Frameworks}
use Rattle.py_tasks.specs.declared.task.Condition.{Condition}
use Rattle.py_tasks.specs.declared.task.Condition.TheVariants.{Done, Running, NotStarted, Ready, Waiting}
use Rattle.py_tasks.specs.Shown.{EntryShown, TaskShown, TasksShown, condition_of, tasks_shown}
use Rattle.py_tasks.specs.Shown.EntryShown.{TaskEntry, LostEntry, OtherEntry}
use Rattle.py_tasks.specs.Shown.TasksShown.{WithoutTasks, TasksUnknown, TasksResized, TasksLost, TasksRead}
use Rattle.task_texts.specs.Counts.{counts_of}
use Rattle.task_texts.specs.Heads.{fault_text, head_text}
use Rattle.task_texts.specs.Members.{chain_text, name_text}
use Rattle.task_texts.specs.declared.counts.Counts.{Counts}
use Rattle.task_texts.specs.declared.told.InterpreterTasks.{InterpreterTasks}

-- ---- how many there are

-- a comma before what isn't the first
abbrev pub comma_text : Bool → List ℕ
comma_text is_first = if is_first then [] else codes ", "

-- a number with its word, where it isn't 0; behind another one stands a comma
abbrev pub count_text : Bool → ℕ → List ℕ → List ℕ
count_text is_first n word = if n == 0 then [] else comma_text is_first ++ (decimal n ++ word)

-- that no task is pending, where that is so
abbrev pub none_text : ℕ → List ℕ
none_text pending = if pending == 0 then codes "none that isn't done" else []

-- how many tasks are done and not shown, where there are some
abbrev pub done_text : ℕ → List ℕ
done_text n =
    if n == 0 then []
    else if n == 1 then codes "; 1 finished isn't shown"
    else codes "; " ++ (decimal n ++ codes " finished aren't shown")

-- whether no task runs and none is ready
abbrev pub none_is_ready : Counts → Bool
none_is_ready c = (c.running == 0) && (c.ready == 0)

-- whether no task runs, none is ready and all have started
abbrev pub none_is_new : Counts → Bool
none_is_new c = none_is_ready c && (c.not_started == 0)

-- how many tasks run, are ready, have not started and wait, with commas between
abbrev pub counts_text : Counts → List ℕ
counts_text c =
    count_text true c.running (codes " running")
    ++ (count_text (c.running == 0) c.ready (codes " ready")
    ++ (count_text (none_is_ready c) c.not_started (codes " not started")
    ++ count_text (none_is_new c) c.waiting (codes " waiting")))

-- how many aren't done, how many of these run, are ready, have not started and wait, and how many are done
abbrev pub summary_text : Counts → List ℕ
summary_text c = codes "Tasks " ++ (decimal c.pending ++ (codes " (" ++ (counts_text c ++ (none_text c.pending
    ++ (done_text c.done ++ codes ")\n")))))

-- ---- tasks

-- the lines of a task: its first one, and its chain
abbrev pub shown_text : TaskShown → List ℕ
shown_text t = head_text t ++ chain_text t.chain

-- the lines of a task in this condition; none where it is done
abbrev pub by_condition : Condition → TaskShown → List ℕ
by_condition Done t = []
by_condition Running t = shown_text t
by_condition NotStarted t = shown_text t
by_condition Ready t = shown_text t
by_condition Waiting t = shown_text t

-- a task; one that is done has no lines
abbrev pub task_text : TaskShown → List ℕ
task_text t = by_condition (condition_of t) t

-- the line of a task of which something can't be read, with the reason
abbrev pub lost_text : ℕ → TasksFault → List ℕ
lost_text a f = codes "Task 0x" ++ (digits 16 false a ++ (codes " is not told: " ++ (fault_text f ++ codes "\n")))

-- the begin of the line of a registered object that is no task
unfoldable pub other_lead : List ℕ
other_lead = codes "Registered, and no task: <"

-- the same with the name of its class
abbrev pub class_text : Option (List ℕ) → List ℕ
class_text class = other_lead ++ name_text class

-- the end of that line, with the object's address
abbrev pub place_text : ℕ → List ℕ
place_text a = codes " at 0x" ++ (digits 16 false a ++ codes ">\n")

-- the line of a registered object that is no task
abbrev pub other_text : ℕ → Option (List ℕ) → List ℕ
other_text a class = class_text class ++ place_text a

-- the lines of a registered object
abbrev pub entry_text : EntryShown → List ℕ
entry_text (TaskEntry t) = task_text t
entry_text (LostEntry a f) = lost_text a f
entry_text (OtherEntry a class) = other_text a class

-- the lines of all registered objects, in order
abbrev pub entries_text : List EntryShown → List ℕ
entries_text entries = concat (map (λ e. entry_text e) entries)

-- how many tasks there are, and their lines
abbrev pub read_text : List EntryShown → List ℕ
read_text entries = summary_text (counts_of entries) ++ entries_text entries

-- the tasks of an interpreter; one without asyncio has no lines
abbrev pub tasks_text : TasksShown → List ℕ
tasks_text WithoutTasks = []
tasks_text TasksUnknown = codes "Tasks are not told: not described for this version\n"
tasks_text (TasksResized size) =
    codes "Tasks are not told: they have " ++ (decimal size ++ codes " bytes, which is not described\n")
tasks_text (TasksLost f) = codes "Tasks are not told: " ++ (fault_text f ++ codes "\n")
tasks_text (TasksRead entries) = read_text entries

-- ---- interpreters

-- whether tasks have lines; not where there is no asyncio
abbrev pub has_lines : TasksShown → Bool
has_lines WithoutTasks = false
has_lines TasksUnknown = true
has_lines (TasksResized size) = true
has_lines (TasksLost f) = true
has_lines (TasksRead entries) = true

-- whose they are
abbrev pub title_text : Bool → ℕ → List ℕ
title_text is_titled interpreter =
    if is_titled then codes "Interpreter 0x" ++ (digits 16 false interpreter ++ codes ": ") else []

-- whether tasks have the address of their interpreter before them
abbrev pub is_titled : (are_several : Bool) → TasksShown → Bool
is_titled are_several tasks = are_several && has_lines tasks

-- ---- what is not read

-- the line of a framework, where an interpreter has it
unfoldable pub framework_text : (are_several : Bool) → ℕ → Bool → List ℕ → List ℕ
framework_text are_several interpreter has line = if has then title_text are_several interpreter ++ line else []

-- the line that curio's tasks are not read
unfoldable pub curio_line : List ℕ
curio_line = codes "Tasks of curio are not read\n"

-- the line that greenlets are not read
unfoldable pub greenlet_line : List ℕ
greenlet_line = codes "Greenlets are not read\n"

-- the line that trio's tasks are not read
unfoldable pub trio_line : List ℕ
trio_line = codes "Tasks of trio are not read\n"

-- the lines of the frameworks that an interpreter has
abbrev pub known_text : (are_several : Bool) → ℕ → Frameworks → List ℕ
known_text are_several interpreter f =
    framework_text are_several interpreter f.curio curio_line
    ++ (framework_text are_several interpreter f.greenlet greenlet_line
    ++ framework_text are_several interpreter f.trio trio_line)

-- the same; none where they aren't known
abbrev pub frameworks_text : (are_several : Bool) → ℕ → Option Frameworks → List ℕ
frameworks_text are_several interpreter None = []
frameworks_text are_several interpreter (Some f) = known_text are_several interpreter f

-- ---- all of it

-- the lines of an interpreter: its tasks, and the frameworks that are not read
abbrev pub interpreter_text : (are_several : Bool) → InterpreterTasks → List ℕ
interpreter_text are_several i =
    title_text (is_titled are_several (tasks_shown i.tasks)) i.interpreter
    ++ (tasks_text (tasks_shown i.tasks) ++ frameworks_text are_several i.interpreter i.frameworks)

-- the lines of some interpreters, in order
abbrev pub each_text : (are_several : Bool) → List InterpreterTasks → List ℕ
each_text are_several is = concat (map (λ i. interpreter_text are_several i) is)

-- those of each interpreter, in order, each with its address where there are several
abbrev pub all_tasks_text : List InterpreterTasks → List ℕ
all_tasks_text is = each_text (nat_lt 1 (length is)) is
