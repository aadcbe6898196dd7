-- The JSON of an interpreter's tasks. The keys of an object stand in the order of their bytes.
use Rattle.std.specs.Prelude.{ℕ, ◌++◌, false, List, map, Option, Some, None, codes, decimal, encode_utf8_all}
use Rattle.std.specs.Fmt.{digits}
use Rattle.serde_json.specs.Data.{Data, Members, array, boolean, member, no_members, null, number, object, string, unsigned}
use Rattle.serde_json.specs.View.{items_of}
use Rattle.coroutine_frames.specs.declared.frame.CoroutineFrame.{CoroutineFrame}
use Rattle.py_coroutines.specs.declared.turn.AwaitEnd.{AwaitEnd}
use Rattle.py_coroutines.specs.declared.turn.AwaitEnd.TheVariants.{Stops, Cycle, Cut}
use Rattle.py_coroutines.specs.declared.turn.Stop.{Stop}
use Rattle.py_coroutines.specs.declared.turn.Stop.TheVariants as stop
use Rattle.py_fronts.specs.Lines.{shown_line}
use Rattle.py_tasks.specs.declared.fault.TasksFault.{TasksFault}
use Rattle.py_tasks.specs.declared.fault.TasksFault.TheVariants.{Unreadable, TooMany, Malformed}
use Rattle.py_tasks.specs.declared.frameworks.Frameworks.{Frameworks}
use Rattle.py_tasks.specs.declared.task.Member.{Member}
use Rattle.py_tasks.specs.declared.task.TaskName.{TaskName}
use Rattle.py_tasks.specs.declared.task.TaskName.TheVariants.{Text, Number}
use Rattle.py_tasks.specs.declared.task.TaskState.{TaskState}
use Rattle.py_tasks.specs.declared.task.Waiter.{Waiter}
use Rattle.py_tasks.specs.Shown.{ChainShown, EntryShown, TaskShown, TasksShown, condition_of, tasks_shown}
use Rattle.py_tasks.specs.Shown.EntryShown.{TaskEntry, LostEntry, OtherEntry}
use Rattle.py_tasks.specs.Shown.TasksShown.{WithoutTasks, TasksUnknown, TasksResized, TasksLost, TasksRead}
use Rattle.task_texts.specs.Words.{condition_word, kind_word, state_word}
use Rattle.task_texts.specs.declared.told.InterpreterTasks.{InterpreterTasks}

-- an address, as in 0x1f: a number of JSON is exact up to 2^53 alone
abbrev pub address_text : ℕ → List ℕ
address_text a = codes "0x" ++ digits 16 false a

-- the JSON of an address
abbrev pub address_tree : ℕ → Data
address_tree a = string (address_text a)

-- the JSON of a word
abbrev pub word_tree : List ℕ → Data
word_tree word = string word

-- the JSON of a text; null where there is none
abbrev pub text_tree : Option (List ℕ) → Data
text_tree None = null
text_tree (Some text) = string (encode_utf8_all text)

-- a task that was given no name is called by its number, as CPython does
abbrev pub numbered_tree : ℕ → Data
numbered_tree n = string (codes "Task-" ++ decimal n)

-- the JSON of a task's name; null where it isn't known
abbrev pub name_tree : Option TaskName → Data
name_tree None = null
name_tree (Some (Text name)) = string (encode_utf8_all name)
name_tree (Some (Number n)) = numbered_tree n

-- the JSON of a future's state; null where it isn't known
abbrev pub state_tree : Option TaskState → Data
state_tree None = null
state_tree (Some s) = string (state_word s)

-- the JSON of what a task waits for; null where it waits for nothing
abbrev pub waiter_tree : Option Waiter → Data
waiter_tree None = null
waiter_tree (Some w) = object (
    member (codes "address") (string (address_text w.address)) (
    member (codes "state") (state_tree w.state) (
    member (codes "type") (text_tree w.class) no_members)))

-- the JSON of a coroutine's frame
abbrev pub frame_tree : CoroutineFrame → Data
frame_tree f = object (
    member (codes "filename") (text_tree f.filename) (
    member (codes "line") (number (unsigned (shown_line f.line))) (
    member (codes "name") (text_tree f.function) no_members)))

-- the JSON of a member's frame; null where none is told
abbrev pub own_frame_tree : Option CoroutineFrame → Data
own_frame_tree None = null
own_frame_tree (Some f) = frame_tree f

-- the JSON of a member of a chain
abbrev pub member_tree : Member → Data
member_tree m = object (
    member (codes "address") (string (address_text m.address)) (
    member (codes "frame") (own_frame_tree m.frame) (
    member (codes "kind") (string (kind_word m.kind)) no_members)))

-- the JSON of a chain's members, in order
abbrev pub members_tree : List Member → Data
members_tree members = array (items_of (map (λ m. member_tree m) members))

-- the JSON of what is told by its kind alone
abbrev pub kind_tree : List ℕ → Data
kind_tree kind = object (member (codes "kind") (string kind) no_members)

-- the JSON of an end by its kind and the address at which it is
abbrev pub end_at : List ℕ → ℕ → Data
end_at kind a = object (
    member (codes "address") (string (address_text a)) (
    member (codes "kind") (string kind) no_members))

-- the JSON of bytes that are not in memory, by their address and their number
abbrev pub missing_tree : ℕ → ℕ → Data
missing_tree a n = object (
    member (codes "address") (string (address_text a)) (
    member (codes "kind") (string (codes "unreadable")) (
    member (codes "length") (number (unsigned n)) no_members)))

-- the JSON of why a chain stops
abbrev pub stop_tree : Stop → Data
stop_tree (stop.Future a) = end_at (codes "future") a
stop_tree stop.Yielding = kind_tree (codes "yield")
stop_tree stop.Created = kind_tree (codes "created")
stop_tree stop.Running = kind_tree (codes "running")
stop_tree stop.Finished = kind_tree (codes "finished")
stop_tree stop.NoTop = kind_tree (codes "not stored")
stop_tree (stop.Other a class) = end_at (codes "object") a
stop_tree (stop.Unreadable a n) = missing_tree a n

-- the JSON of how a chain ends
abbrev pub end_tree : AwaitEnd → Data
end_tree (Stops why) = stop_tree why
end_tree (Cycle a) = end_at (codes "cycle") a
end_tree (Cut a) = end_at (codes "cut") a

-- the JSON of a chain: how it ends, and its members
abbrev pub chain_tree : ChainShown → Data
chain_tree c = object (
    member (codes "end") (end_tree c.end) (
    member (codes "members") (members_tree c.members) no_members))

-- the JSON of a thread's id; null where it isn't known
abbrev pub thread_tree : Option ℕ → Data
thread_tree None = null
thread_tree (Some id) = number (unsigned id)

-- the members whose keys stand first in the order of their bytes
abbrev pub first_members : TaskShown → Members
first_members t =
    member (codes "address") (address_tree t.address) (
    member (codes "chain") (chain_tree t.chain) (
    member (codes "condition") (word_tree (condition_word (condition_of t))) (
    member (codes "kind") (word_tree (codes "task")) (
    member (codes "loop") (address_tree t.event_loop) no_members))))

-- the JSON of a task
abbrev pub task_tree : TaskShown → Data
task_tree t = object (
    member (codes "address") (address_tree t.address) (
    member (codes "chain") (chain_tree t.chain) (
    member (codes "condition") (word_tree (condition_word (condition_of t))) (
    member (codes "kind") (word_tree (codes "task")) (
    member (codes "loop") (address_tree t.event_loop) (
    member (codes "must_cancel") (boolean t.must_cancel) (
    member (codes "name") (name_tree t.name) (
    member (codes "state") (word_tree (state_word t.state)) (
    member (codes "thread_id") (thread_tree t.thread_id) (
    member (codes "waiter") (waiter_tree t.waiter) no_members))))))))))

-- the JSON of why something of tasks is not told
abbrev pub fault_tree : TasksFault → Data
fault_tree (Unreadable a n) = missing_tree a n
fault_tree TooMany = kind_tree (codes "too many")
fault_tree Malformed = kind_tree (codes "malformed")

-- the JSON of a task of which something can't be read
abbrev pub lost_tree : ℕ → TasksFault → Data
lost_tree a f = object (
    member (codes "address") (string (address_text a)) (
    member (codes "fault") (fault_tree f) (
    member (codes "kind") (string (codes "lost")) no_members)))

-- the JSON of a registered object that is no task
abbrev pub other_tree : ℕ → Option (List ℕ) → Data
other_tree a class = object (
    member (codes "address") (string (address_text a)) (
    member (codes "kind") (string (codes "other")) (
    member (codes "type") (text_tree class) no_members)))

-- the JSON of a registered object
abbrev pub entry_tree : EntryShown → Data
entry_tree (TaskEntry t) = task_tree t
entry_tree (LostEntry a f) = lost_tree a f
entry_tree (OtherEntry a class) = other_tree a class

-- the JSON of some registered objects, in order
abbrev pub entry_trees : List EntryShown → Data
entry_trees entries = array (items_of (map (λ e. entry_tree e) entries))

-- the JSON of the tasks of an interpreter that were read
abbrev pub entries_tree : List EntryShown → Data
entries_tree entries = object (
    member (codes "entries") (entry_trees entries) (
    member (codes "kind") (string (codes "read")) no_members))

-- the JSON of tasks that are not told, since their size is another one
abbrev pub resized_tree : ℕ → Data
resized_tree size = object (
    member (codes "kind") (string (codes "another size")) (
    member (codes "size") (number (unsigned size)) no_members))

-- the tasks of an interpreter
abbrev pub tasks_tree : TasksShown → Data
tasks_tree WithoutTasks = null
tasks_tree TasksUnknown = kind_tree (codes "not described")
tasks_tree (TasksResized size) = resized_tree size
tasks_tree (TasksLost f) = fault_tree f
tasks_tree (TasksRead entries) = entries_tree entries

-- which other frameworks an interpreter has
abbrev pub frameworks_tree : Option Frameworks → Data
frameworks_tree None = null
frameworks_tree (Some f) = object (
    member (codes "curio") (boolean f.curio) (
    member (codes "greenlet") (boolean f.greenlet) (
    member (codes "trio") (boolean f.trio) no_members)))

-- the JSON of an interpreter: its tasks, and which other frameworks it has
abbrev pub interpreter_tree : InterpreterTasks → Data
interpreter_tree i = object (
    member (codes "frameworks") (frameworks_tree i.frameworks) (
    member (codes "interpreter") (string (address_text i.interpreter)) (
    member (codes "tasks") (tasks_tree (tasks_shown i.tasks)) no_members)))

-- those of each interpreter, in order
abbrev pub all_tasks_tree : List InterpreterTasks → Data
all_tasks_tree tasks = array (items_of (map (λ i. interpreter_tree i) tasks))
