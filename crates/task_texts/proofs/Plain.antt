-- The tree of tasks has no float.
use Rattle.std.proofs.Common.{◌≡◌, false, ℕ, List, [], ◌∷◌, map, Option, Some, None, refl, ap, ◌∙◌}
use Rattle.std.specs.Prelude.{◌||◌}
use Rattle.serde_json.specs.View.{items_of}
use Rattle.serde_json.specs.Written.{has_float, items_have_float}
use Rattle.coroutine_frames.specs.declared.frame.CoroutineFrame.{CoroutineFrame}
use Rattle.py_coroutines.specs.declared.turn.AwaitEnd.{AwaitEnd}
use Rattle.py_coroutines.specs.declared.turn.AwaitEnd.TheVariants.{Stops, Cycle, Cut}
use Rattle.py_coroutines.specs.declared.turn.Stop.{Stop}
use Rattle.py_coroutines.specs.declared.turn.Stop.TheVariants as stop
use Rattle.py_tasks.specs.declared.fault.TasksFault.{TasksFault}
use Rattle.py_tasks.specs.declared.fault.TasksFault.TheVariants.{Unreadable, TooMany, Malformed}
use Rattle.py_tasks.specs.declared.frameworks.Frameworks.{Frameworks}
use Rattle.py_tasks.specs.declared.task.Member.{Member}
use Rattle.py_tasks.specs.declared.task.TaskName.{TaskName}
use Rattle.py_tasks.specs.declared.task.TaskName.TheVariants.{Text, Number}
use Rattle.py_tasks.specs.declared.task.TaskState.{TaskState}
use Rattle.py_tasks.specs.declared.task.Waiter.{Waiter}
use Rattle.py_tasks.specs.Shown.{ChainShown, EntryShown, TaskShown, TasksShown, tasks_shown}
use Rattle.py_tasks.specs.Shown.EntryShown.{TaskEntry, LostEntry, OtherEntry}
use Rattle.py_tasks.specs.Shown.TasksShown.{WithoutTasks, TasksUnknown, TasksResized, TasksLost, TasksRead}
use Rattle.task_texts.specs.Trees.{all_tasks_tree, chain_tree, end_tree, entries_tree, entry_tree, entry_trees}
use Rattle.task_texts.specs.Trees.{fault_tree, frame_tree, frameworks_tree, interpreter_tree, lost_tree, member_tree, members_tree, name_tree}
use Rattle.task_texts.specs.Trees.{other_tree, own_frame_tree, state_tree, stop_tree, task_tree, tasks_tree, text_tree}
use Rattle.task_texts.specs.Trees.{thread_tree, waiter_tree}
use Rattle.task_texts.specs.declared.told.InterpreterTasks.{InterpreterTasks}

text : (t : Option (List ℕ)) → has_float (text_tree t) ≡ false
text None = refl
text (Some t) = refl

name : (n : Option TaskName) → has_float (name_tree n) ≡ false
name None = refl
name (Some (Text t)) = refl
name (Some (Number n)) = refl

state : (s : Option TaskState) → has_float (state_tree s) ≡ false
state None = refl
state (Some s) = refl

waiter : (w : Option Waiter) → has_float (waiter_tree w) ≡ false
waiter None = refl
waiter (Some w) = λ i. false || (state w.state i || (text w.class i || false))

frame : (f : CoroutineFrame) → has_float (frame_tree f) ≡ false
frame f = λ i. text f.filename i || (false || (text f.function i || false))

own_frame : (f : Option CoroutineFrame) → has_float (own_frame_tree f) ≡ false
own_frame None = refl
own_frame (Some f) = frame f

member : (m : Member) → has_float (member_tree m) ≡ false
member m = λ i. false || (own_frame m.frame i || (false || false))

members : (ms : List Member) → has_float (members_tree ms) ≡ false
members [] = refl
members (m ∷ ms) = ap (λ b. b || items_have_float (items_of (map (λ x. member_tree x) ms))) (member m) ∙ members ms

stopped : (s : Stop) → has_float (stop_tree s) ≡ false
stopped (stop.Future a) = refl
stopped stop.Yielding = refl
stopped stop.Created = refl
stopped stop.Running = refl
stopped stop.Finished = refl
stopped stop.NoTop = refl
stopped (stop.Other a class) = refl
stopped (stop.Unreadable a n) = refl

ended : (e : AwaitEnd) → has_float (end_tree e) ≡ false
ended (Stops why) = stopped why
ended (Cycle a) = refl
ended (Cut a) = refl

chain : (c : ChainShown) → has_float (chain_tree c) ≡ false
chain c = λ i. ended c.end i || (members c.members i || false)

thread : (id : Option ℕ) → has_float (thread_tree id) ≡ false
thread None = refl
thread (Some id) = refl

task : (t : TaskShown) → has_float (task_tree t) ≡ false
task t = λ i. false || (chain t.chain i || (false || (false || (false || (false || (name t.name i || (false
    || (thread t.thread_id i || (waiter t.waiter i || false)))))))))

fault : (f : TasksFault) → has_float (fault_tree f) ≡ false
fault (Unreadable a n) = refl
fault TooMany = refl
fault Malformed = refl

lost : (a : ℕ) (f : TasksFault) → has_float (lost_tree a f) ≡ false
lost a f = λ i. false || (fault f i || (false || false))

other : (a : ℕ) (class : Option (List ℕ)) → has_float (other_tree a class) ≡ false
other a class = λ i. false || (false || (text class i || false))

one : (e : EntryShown) → has_float (entry_tree e) ≡ false
one (TaskEntry t) = task t
one (LostEntry a f) = lost a f
one (OtherEntry a class) = other a class

all : (es : List EntryShown) → has_float (entry_trees es) ≡ false
all [] = refl
all (e ∷ es) = ap (λ b. b || items_have_float (items_of (map (λ x. entry_tree x) es))) (one e) ∙ all es

entries : (es : List EntryShown) → has_float (entries_tree es) ≡ false
entries es = λ i. all es i || (false || false)

own : (t : TasksShown) → has_float (tasks_tree t) ≡ false
own WithoutTasks = refl
own TasksUnknown = refl
own (TasksResized size) = refl
own (TasksLost f) = fault f
own (TasksRead es) = entries es

frameworks : (f : Option Frameworks) → has_float (frameworks_tree f) ≡ false
frameworks None = refl
frameworks (Some f) = refl

interpreter : (t : InterpreterTasks) → has_float (interpreter_tree t) ≡ false
interpreter t = λ i. frameworks t.frameworks i || (false || (own (tasks_shown t.tasks) i || false))

pub no_float : (ts : List InterpreterTasks) → has_float (all_tasks_tree ts) ≡ false
no_float [] = refl
no_float (t ∷ ts) =
    ap (λ b. b || items_have_float (items_of (map (λ x. interpreter_tree x) ts))) (interpreter t) ∙ no_float ts
