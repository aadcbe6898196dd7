-- What a registered object is: a task where its type leads by its first bases, at most 64, to the one of tasks
-- (`Task_Check`, Modules/_asynciomodule.c), and else another one; the object of a dead weak reference is `None`
-- (Objects/weakrefobject.c), which is left out.
use Rattle.std.specs.Prelude.{◌≡◌, ℕ, ◌+◌, Bool, true, false, Option, Some, None, List, get_or, bytes_eq, codes, map}
use Rattle.std.specs.Prelude.{Result, Ok, Err, encode_utf8_all}
use Rattle.process_memory.specs.Memory.{Memory, Found, Fault, ◌>>=◌, word_at}
use Rattle.py_fields.specs.declared.layout.Layout.{Layout}
use Rattle.py_names.specs.declared.names_error.NamesError.{NamesError}
use Rattle.py_names.specs.declared.names_error.NamesError.TheVariants.{OutOfMemory}
use Rattle.std.specs.Global.{Vec}
use Rattle.py_tasks.specs.declared.described.Described.{Described}
use Rattle.py_tasks.specs.declared.task.Entry.{Entry}
use Rattle.py_tasks.specs.Bases.{leads_at}
use Rattle.py_tasks.specs.Faults.{lost_by}
use Rattle.py_tasks.specs.Names.{class_at}
use Rattle.py_tasks.specs.Shown.{EntryShown, entry_shown}
use Rattle.py_tasks.specs.Told.{task_at}

-- whether the object at an address is a task
unfoldable pub is_task_at : Layout → Described → Memory → ℕ → Found Bool
is_task_at l d m a = do
  class ← word_at m (a + l.object.klass)
  leads_at d.places.base m class d.types.task 64

-- whether the name of a class is that of `None`
abbrev pub is_none : Option (List ℕ) → Bool
is_none None = false
is_none (Some name) = bytes_eq (encode_utf8_all name) (codes "NoneType")

-- an object that is no task, with its class's name; left out where it is `None`
abbrev pub unless_none : Bool → ℕ → Option (List ℕ) → Option EntryShown
unless_none true a class = None
unless_none false a class = Some (EntryShown.OtherEntry a class)

-- an object that is no task
abbrev pub other_by : ℕ → Option (List ℕ) → Option EntryShown
other_by a class = unless_none (is_none class) a class

-- an object that is no task, by the name of its class
unfoldable pub other_at : Layout → Memory → ℕ → Found (Option EntryShown)
other_at l m a = do
  class ← class_at l m a
  Ok (other_by a class)

-- the entry of the task at an address
unfoldable pub some_task_at : Layout → Described → Memory → ℕ → ℕ → Found (Option EntryShown)
some_task_at l d m limit a = do
  task ← task_at l d m limit a
  Ok (Some (EntryShown.TaskEntry task))

-- a registered object: a task, or else another one
abbrev pub known_by : Layout → Described → Memory → ℕ → ℕ → Bool → Found (Option EntryShown)
known_by l d m limit a true = some_task_at l d m limit a
known_by l d m limit a false = other_at l m a

-- what a registered object is, where that can be told
unfoldable pub known_at : Layout → Described → Memory → ℕ → ℕ → Found (Option EntryShown)
known_at l d m limit a = do
  is ← is_task_at l d m a
  known_by l d m limit a is

-- an entry that the code has, as it is shown, if there is one
abbrev pub entry_shown_of : Option Entry → Option EntryShown
entry_shown_of None = None
entry_shown_of (Some e) = Some (entry_shown e)

-- a reader's result with an entry as it is shown
abbrev pub entry_result : {E : Type 0} → Result (Option Entry) E → Result (Option EntryShown) E
entry_result (Ok e) = Ok (entry_shown_of e)
entry_result (Err e) = Err e

-- of what is not in memory the object is told as lost
abbrev pub IsLostEntry : ℕ → Option Fault → Result (Option EntryShown) NamesError → Type 0
IsLostEntry a None result = result ≡ Err OutOfMemory
IsLostEntry a (Some f) result = result ≡ Ok (Some (EntryShown.LostEntry a (lost_by f)))

-- what a registered object is; lost where something of it can't be read
abbrev pub entry_or : ℕ → Found (Option EntryShown) → Option EntryShown
entry_or a (Ok e) = e
entry_or a (Err f) = Some (EntryShown.LostEntry a (lost_by f))

-- what a registered object is
unfoldable pub entry_at : Layout → Described → Memory → ℕ → ℕ → Found (Option EntryShown)
entry_at l d m limit a = Ok (entry_or a (known_at l d m limit a))

-- what the object at an index of the registered addresses is
abbrev pub entries_of : Layout → Described → Memory → ℕ → List ℕ → ℕ → Found (Option EntryShown)
entries_of l d m limit addresses number = entry_at l d m limit (get_or addresses number 0)

-- a reader's result with the items of its vector of entries
abbrev pub entries_result : {E : Type 0} → Result (Vec Entry) E → Result (List EntryShown) E
entries_result (Ok v) = Ok (map entry_shown v.items)
entries_result (Err e) = Err e
