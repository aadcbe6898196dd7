-- The tasks of an interpreter: exactly the registered objects, each once, in the order of first mention, each as what
-- it is. How many are told, and how many members their chains have, is this project's rule.
use Rattle.std.specs.Prelude.{◌≡◌, ℕ, ◌+◌, ◌/◌, ◌^◌, ◌&&◌, nat_le, nat_lt, nat_eq, Bool, true, Option, Some, None}
use Rattle.std.specs.Prelude.{List, length, Result, Ok, Err, if◌then◌else◌}
use Rattle.process_memory.specs.Memory.{Memory, Found, Fault, ◌>>=◌, word_at}
use Rattle.py_fields.specs.declared.layout.Layout.{Layout}
use Rattle.py_coroutines.specs.declared.places.AwaitTypes.{AwaitTypes}
use Rattle.py_coroutines.specs.declared.places.ApartStack.{ApartStack}
use Rattle.py_coroutines.specs.declared.places.ApartStack.TheVariants.{Pointer, Depth}
use Rattle.py_coroutines.specs.declared.places.Family.{Family}
use Rattle.py_coroutines.specs.declared.places.Family.TheVariants.{Apart, Inside}
use Rattle.py_coroutines.specs.declared.places.Places.{Places}
use Rattle.coroutine_frames.specs.Described.{unchecked_of}
use Rattle.py_names.specs.declared.names_error.NamesError.{NamesError}
use Rattle.py_names.specs.declared.names_error.NamesError.TheVariants.{OutOfMemory}
use Rattle.py_records.specs.declared.records.Records.{Records}
use Rattle.task_sets.specs.Gathered.{gathered}
use Rattle.task_sets.specs.Places.{places_of}
use Rattle.task_sets.specs.Registered.{registered_at}
use Rattle.task_sets.specs.Roots.{roots_at}
use Rattle.task_sets.specs.declared.places.RootPlaces.{RootPlaces}
use Rattle.task_sets.specs.declared.roots.Roots.{Roots}
use Rattle.type_places.specs.declared.classes.TypeFields.{TypeFields}
use Rattle.py_tasks.specs.declared.described.Described.{Described}
use Rattle.py_tasks.specs.declared.described.TaskPlaces.{TaskPlaces}
use Rattle.py_tasks.specs.declared.fault.TasksFault.TheVariants.{TooMany}
use Rattle.py_tasks.specs.declared.task.TasksOf.{TasksOf}
use Rattle.py_tasks.specs.Described.{task_places_of}
use Rattle.py_tasks.specs.Entries.{entries_of}
use Rattle.py_tasks.specs.Faults.{lost_by}
use Rattle.py_tasks.specs.Shown.{TasksShown, tasks_shown}
use Rattle.py_tasks.specs.Types.{sizes_of, types_at}

-- how many members of each of so many chains are met at most: 16384, and of all of them 2^20
unfoldable pub chain_limit : ℕ → ℕ
chain_limit count = if nat_le count 64 then 16384 else 1048576 / count

-- the registered objects at these addresses, each as what it is
unfoldable pub read_at : Layout → Described → Memory → List ℕ → Found TasksShown
read_at l d m addresses = do
  entries ← gathered (entries_of l d m (chain_limit (length addresses)) addresses) (length addresses) 0
  Ok (TasksShown.TasksRead entries)

-- what some registered objects are, where these are few enough
unfoldable pub few_at : Layout → Described → Memory → List ℕ → Found TasksShown
few_at l d m addresses =
    if nat_lt 65536 (length addresses) then Ok (TasksShown.TasksLost TooMany) else read_at l d m addresses

-- the registered objects of an interpreter, each as what it is
unfoldable pub listed_at : Layout → Described → Memory → Roots → Found TasksShown
listed_at l d m roots = do
  registered ← registered_at l d.roots m roots
  few_at l d m registered

-- where the parts of tasks, of what registers them and of coroutines stand, with the types of futures and tasks
abbrev pub described_with : TaskPlaces → RootPlaces → AwaitTypes → Places → Described
described_with p r types awaits = record {
  places = p;
  types = record { future = types.future; task = types.task };
  roots = r;
  awaits = awaits;
}

-- whether the fields that tell the top of a frame's stack lie inside a record of so many bytes
abbrev pub sound_stack : ApartStack → ℕ → Bool
sound_stack (Pointer top) size = nat_le (top + 8) size
sound_stack (Depth bottom depth state states) size =
    nat_le (bottom + 8) size && (nat_le (depth + 4) size && nat_le (state + 1) size)

-- whether the byte that tells if it runs lies inside a record of so many bytes, where there is one
abbrev pub sound_running : Option ℕ → ℕ → Bool
sound_running None size = true
sound_running (Some place) size = nat_le (place + 1) size

-- whether what is read of a coroutine lies inside its record (`IsSound` of py_coroutines)
abbrev pub sound_family : Family → Bool
sound_family (Apart p) =
    nat_le (p.frame + 8) p.size && (sound_running p.running p.size && (nat_lt p.size (2 ^ 16)
    && (nat_le (p.code + 8) p.frame_size && (nat_le (p.last + 4) p.frame_size
    && (sound_stack p.stack p.frame_size && nat_lt p.frame_size (2 ^ 16))))))
sound_family (Inside p) =
    nat_le (p.state + 1) p.size && (nat_le (p.frame + p.instruction + 8) p.size
    && (nat_le (p.frame + p.depth + 4) p.size && nat_lt p.size (2 ^ 16)))

-- where the parts of coroutines stand, if what is read of them lies inside their records
abbrev pub if_sound : Option Places → Option Places
if_sound None = None
if_sound (Some p) = if sound_family p.family then Some p else None

-- where the parts of coroutines stand, if that is described and sound
abbrev pub sound_places : Layout → Records → AwaitTypes → Option Places
sound_places l records types = if_sound (unchecked_of l records types)

-- the tasks of an interpreter, by the parts of coroutines
abbrev pub by_places : Layout → Memory → TaskPlaces → RootPlaces → Roots → AwaitTypes → Option Places → Found TasksShown
by_places l m p r roots types None = Ok TasksShown.TasksUnknown
by_places l m p r roots types (Some awaits) = listed_at l (described_with p r types awaits) m roots

-- and by the types that were found
unfoldable pub described_at : Layout → Records → Memory → TaskPlaces → RootPlaces → Roots → AwaitTypes
    → Found TasksShown
described_at l records m p r roots types = by_places l m p r roots types (sound_places l records types)

-- where a type has its size and its first base (`tp_basicsize`, `tp_base`)
abbrev pub fields_of : TaskPlaces → TypeFields
fields_of p = record { basic_size = p.basic_size; base = p.base }

-- the tasks of an interpreter, by the types that its modules have
unfoldable pub typed_at : Layout → Records → Memory → TaskPlaces → RootPlaces → ℕ → Roots → ℕ → Found TasksShown
typed_at l records m p r modules roots task = do
  types ← types_at l (fields_of p) m (sizes_of records) modules task
  described_at l records m p r roots types

-- the tasks, where the type of tasks has objects of the described size; else that their size is another one
abbrev pub by_size : Layout → Records → Memory → TaskPlaces → RootPlaces → ℕ → Roots → ℕ → ℕ → Found TasksShown
by_size l records m p r modules roots task size =
    if nat_eq size p.size then typed_at l records m p r modules roots task else Ok (TasksShown.TasksResized size)

-- the same, by the size that the type of tasks says
unfoldable pub checked_at : Layout → Records → Memory → TaskPlaces → RootPlaces → ℕ → Roots → ℕ → Found TasksShown
checked_at l records m p r modules roots task = do
  size ← word_at m (task + p.basic_size)
  by_size l records m p r modules roots task size

-- the same, where the module `asyncio.tasks` has such a type; without one nothing is checked
abbrev pub by_task : Layout → Records → Memory → TaskPlaces → RootPlaces → ℕ → Roots → Option ℕ → Found TasksShown
by_task l records m p r modules roots None = typed_at l records m p r modules roots 0
by_task l records m p r modules roots (Some task) = checked_at l records m p r modules roots task

-- the module's type of tasks has to have the size that the records tell
unfoldable pub sized_at : Layout → Records → Memory → TaskPlaces → RootPlaces → ℕ → Roots → Found TasksShown
sized_at l records m p r modules roots = by_task l records m p r modules roots roots.task

-- the same, where the records of a version describe tasks and what registers them; else that they are unknown
abbrev pub by_described : Layout → Records → Memory → ℕ → Roots → Option TaskPlaces → Option RootPlaces
    → Found TasksShown
by_described l records m modules roots (Some p) (Some r) = sized_at l records m p r modules roots
by_described l records m modules roots _ _ = Ok TasksShown.TasksUnknown

-- by what the module `asyncio.tasks` has, if there is one
unfoldable pub by_roots_at : Layout → Records → Memory → (slots : ℕ) → ℕ → Option Roots → Found TasksShown
by_roots_at l records m slots modules None = Ok TasksShown.WithoutTasks
by_roots_at l records m slots modules (Some roots) =
    by_described l records m modules roots (task_places_of records) (places_of l records slots)

-- the tasks of an interpreter, by its dict of modules
abbrev pub with_modules : Layout → Records → Memory → (slots : ℕ) → ℕ → Found TasksShown
with_modules l records m slots modules = do
  roots ← roots_at l m modules
  by_roots_at l records m slots modules roots

-- by the dict of modules; an interpreter that has none has no asyncio
unfoldable pub by_modules_at : Layout → Records → Memory → (slots : ℕ) → ℕ → Found TasksShown
by_modules_at l records m slots modules =
    if nat_eq modules 0 then Ok TasksShown.WithoutTasks else with_modules l records m slots modules

-- the tasks of the interpreter at an address
unfoldable pub all_at : Layout → Records → Memory → (slots : ℕ) → ℕ → Found TasksShown
all_at l records m slots interpreter = do
  modules ← word_at m (interpreter + l.interpreter.modules)
  by_modules_at l records m slots modules

-- a fault is told as lost tasks, and out of memory as an error
abbrev pub IsLostTasks : Option Fault → Result TasksShown NamesError → Type 0
IsLostTasks None result = result ≡ Err OutOfMemory
IsLostTasks (Some f) result = result ≡ Ok (TasksShown.TasksLost (lost_by f))

-- the tasks; lost where something that leads to them can't be read
abbrev pub tasks_or : Found TasksShown → TasksShown
tasks_or (Ok t) = t
tasks_or (Err f) = TasksShown.TasksLost (lost_by f)

-- the tasks of the interpreter at an address, whose sets may have so many entries together
unfoldable pub tasks_at : Layout → Records → Memory → (slots : ℕ) → ℕ → Found TasksShown
tasks_at l records m slots interpreter = Ok (tasks_or (all_at l records m slots interpreter))

-- a reader's result with tasks as they are shown
abbrev pub tasks_result : {E : Type 0} → Result TasksOf E → Result TasksShown E
tasks_result (Ok t) = Ok (tasks_shown t)
tasks_result (Err e) = Err e
