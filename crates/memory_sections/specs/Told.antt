-- The sections that are read in a process's memory: each is asked for by a flag of its own, and is told of each
-- interpreter, or of each thread, of those that are shown.
use Rattle.std.specs.Prelude.{◌≡◌, ℕ, ◌/◌, nat_eq, Bool, true, false, List, [], length, map, Option, Some, None}
use Rattle.std.specs.Prelude.{Ok, Vec}
use Rattle.std.specs.Prelude.{if◌then◌else◌}
use Rattle.std.specs.Global.{Global}
use Rattle.process_memory.specs.Memory.{Memory}
use Rattle.py_fields.specs.declared.layout.Layout.{Layout}
use Rattle.py_fronts.specs.declared.thread_front.ThreadFront.{ThreadFront}
use Rattle.py_fronts.specs.declared.salvaged.SalvagedInterpreter.{SalvagedInterpreter}
use Rattle.image_memory.specs.Images.{Pushed}
use Rattle.py_process.specs.Facts.{Known}
use Rattle.py_records.specs.declared.records.Records.{Records}
use Rattle.salvage_words.specs.declared.asked.Sections.{Sections}
use Rattle.thread_registers.specs.declared.threads.PythonThread.{PythonThread}
use Rattle.py_records.specs.declared.types.TypeRecords.{TypeRecords}
use Rattle.py_records.specs.declared.types.KlassRecord.{KlassRecord}
use Rattle.py_records.specs.declared.types.HeapTypeRecord.{HeapTypeRecord}
use Rattle.task_sets.specs.Places.{form_of, instance_of}
use Rattle.coroutine_frames.specs.Described.{family_of}
use Rattle.py_coroutines.specs.declared.places.Family.{Family}
use Rattle.py_records.specs.declared.coroutines.GeneratorRecord.{GeneratorRecord}
use Rattle.py_reprs.specs.declared.coroutines.CoroutineRule.{CoroutineRule}
use Rattle.thread_names.specs.Told.{names_shown, names_told}
use Rattle.thread_names.specs.declared.own.DictRule.{DictRule}
use Rattle.thread_names.specs.declared.names.InterpreterNames.{InterpreterNames}
use Rattle.elf64_core.specs.Notes.{Noted}
use Rattle.image_memory.specs.Notes.{AreNotesOfCore}
use Rattle.native_stacks.specs.First.{notes_of_first}
use Rattle.native_stacks.specs.Stacks.{AreNativeStacks, stacks_shown}
use Rattle.native_stacks.specs.declared.stacks.NativeStacks.{NativeStacks}
use Rattle.py_tasks.specs.Frameworks.{frameworks_at}
use Rattle.py_tasks.specs.Shown.{tasks_shown}
use Rattle.py_tasks.specs.Tasks.{tasks_at}
use Rattle.task_texts.specs.declared.told.InterpreterTasks.{InterpreterTasks}
use Rattle.memory_sections.specs.Pythons.{python_threads}
use Rattle.memory_sections.specs.Each.{EachTold}
pub use Rattle.memory_sections.specs.Each.{ToldIf}
use Rattle.memory_sections.specs.Exceptions.{ExceptionsAre}
use Rattle.memory_sections.specs.Heap.{HeapIs}
use Rattle.memory_sections.specs.Locals.{ValuesAre}
use Rattle.memory_sections.specs.Pairs.{PairsAre}
use Rattle.py_fields.specs.declared.version.Version.{Version}
use Rattle.memory_sections.specs.Waits.{WaitsAre}
use Rattle.memory_sections.specs.declared.told.MemoryTold.{MemoryTold}

-- ---- names

-- the id that the interpreter gave a thread
abbrev pub id_of : ThreadFront → ℕ
id_of t = t.thread_id

-- the ids that an interpreter gave its threads, in order
abbrev pub ids_of : SalvagedInterpreter → List ℕ
ids_of i = map id_of i.front.threads.threads.items

-- how the instances of a version's classes have their dicts, where its records say it
abbrev pub rule_by : Layout → TypeRecords → Option KlassRecord → Option HeapTypeRecord → Option DictRule
rule_by l t (Some k) (Some h) = Some (record { fields = instance_of l k h; form = form_of t })
rule_by l t _ _ = None

-- how attributes of instances are found, where the records tell it
abbrev pub rule_of : Layout → Records → Option DictRule
rule_of l r = rule_by l r.types r.types.klass r.types.heap_type

-- by what the names and the states of a version's coroutines are read, where its records say how these stand in memory
abbrev pub coroutine_rule_by : Option GeneratorRecord → Option Family → Option CoroutineRule
coroutine_rule_by (Some generator) (Some family) = Some (record { name = generator.name; family = family })
coroutine_rule_by _ _ = None

-- how coroutines are read, where the records tell it
abbrev pub coroutine_rule_of : Layout → Records → Option CoroutineRule
coroutine_rule_of l r = coroutine_rule_by r.coroutines.generator (family_of l r)

-- the names that an interpreter keeps for its threads that are shown
abbrev pub AreNamesOf : Layout → Option DictRule → Memory → SalvagedInterpreter → InterpreterNames → Type 0
AreNamesOf l rule m i told = names_shown told ≡ names_told l rule m i.front.address (ids_of i)

-- the names of each interpreter's threads, exactly where they are asked for
abbrev pub NamesAre : Bool → Layout → Option DictRule → Memory → List SalvagedInterpreter
    → Option (Vec InterpreterNames Global) → Type 0
NamesAre asked l rule m is told =
    ToldIf asked (λ (names : Vec InterpreterNames Global). EachTold (AreNamesOf l rule m) is names.items) told

-- those that are told, by interpreters; none where they aren't asked for
abbrev pub names_given : Option (Vec InterpreterNames Global) → List InterpreterNames
names_given None = []
names_given (Some names) = names.items

-- ---- tasks

-- how many entries the sets of each of so many interpreters may have together, so that all have at most 2^20
unfoldable pub slot_share : (count : ℕ) → ℕ
slot_share count = if nat_eq count 0 then 1048576 else 1048576 / count

-- the tasks of an interpreter that is shown, by the records of its version, and which other frameworks it has
pub record AreTasksOf (l : Layout) (r : Records) (m : Memory) (slots : ℕ) (i : SalvagedInterpreter)
    (told : InterpreterTasks) : Type 0 where
  pub interpreter_is : told.interpreter ≡ i.front.address
  pub are : tasks_at l r m slots i.front.address ≡ Ok (tasks_shown told.tasks)
  pub others : frameworks_at l m i.front.address ≡ Ok told.frameworks

-- the tasks of each interpreter, exactly where they are asked for
abbrev pub TasksAre : Bool → Layout → Records → Memory → List SalvagedInterpreter
    → Option (Vec InterpreterTasks Global) → Type 0
TasksAre asked l r m is told = ToldIf asked
    (λ (tasks : Vec InterpreterTasks Global). EachTold (AreTasksOf l r m (slot_share (length is))) is tasks.items) told

-- ---- native stacks

-- the notes by which threads are told: where it is asked for, of status records the first one alone, which is that of
-- the thread that got the signal
abbrev pub asked_notes : (crashed : Bool) → List Noted → List Noted
asked_notes true notes = notes_of_first notes
asked_notes false notes = notes

-- the native stacks of the threads that the core's notes tell
pub record AreNative (strict crashed : Bool) (bytes : List ℕ) (images : Pushed) (m : Memory)
    (pythons : List PythonThread) (stacks : NativeStacks) : Type 0 where
  pub notes : List Noted
  pub are : AreNotesOfCore bytes notes
  pub told : AreNativeStacks bytes (asked_notes crashed notes) images m pythons strict (stacks_shown stacks)

-- the native stacks, exactly where they are asked for
abbrev pub NativeAre : Bool → Bool → Bool → List ℕ → Pushed → Memory → List SalvagedInterpreter → Option NativeStacks
    → Type 0
NativeAre asked strict crashed bytes images m is told =
    ToldIf asked (AreNative strict crashed bytes images m (python_threads is)) told

-- ---- all of them

-- What is told of a process whose core has these bytes and was opened with these images, by which this is known of it,
-- of this version of Python, by a layout and the records of that version, over this memory, and of whose interpreters
-- these are shown; values of locals by so many `-l`.
pub record AreMemoryTold (asked : Sections) (times : ℕ) (bytes : List ℕ) (images : Pushed) (k : Known) (v : Version)
    (l : Layout) (r : Records) (m : Memory) (is : List SalvagedInterpreter) (told : MemoryTold) : Type 0 where
  pub names : NamesAre asked.names l (rule_of l r) m is told.names
  pub tasks : TasksAre asked.tasks l r m is told.tasks
  pub exceptions : ExceptionsAre asked.exceptions l r m is told.exceptions
  pub waits : WaitsAre asked.waits bytes k l r m is told.waits
  pub native : NativeAre asked.native asked.strict asked.crashed bytes images m is told.native
  pub stacks : PairsAre bytes k v l r m is told.native told.stacks
  pub values : ValuesAre times k l (rule_of l r) (coroutine_rule_of l r) m is told.values
  pub heap : HeapIs asked.heap k v l r m is told.heap
