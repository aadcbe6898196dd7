-- What a run that salvages a core promises under status 0.
use Rattle.std.specs.Prelude.{◌≡◌, ◌≢◌, ◌∷◌, ◌++◌, [], ℕ, List, length, Ok, Option, Some, Vec}
use Rattle.std.specs.Global.{Global}
use Rattle.std.specs.Io.KnownBytes.{Appends}
use Rattle.outside.specs.Files.{Told}
use Rattle.outside.specs.Streams.{SinkSeen}
use Rattle.elf64_core.specs.Header.{machine_of}
use Rattle.elf64_core.specs.Notes.{Noted}
use Rattle.image_memory.specs.Notes.{AreNotesOfCore}
use Rattle.crash_signal.specs.Signals.{signal_told}
use Rattle.thread_registers.specs.Threads.{threads_told}
use Rattle.py_fields.specs.declared.layout.Layout.{Layout}
use Rattle.py_selftest.specs.Checking.{Says, check_shown}
use Rattle.py_selftest.specs.declared.checking.LayoutCheck.{LayoutCheck}
use Rattle.py_layout.specs.File.{IsRightFor}
use Rattle.py_records.specs.File.{IsRightFor as AreRightFor}
use Rattle.py_records.specs.declared.table.RecordTable.{RecordTable}
use Rattle.salvage_words.specs.Salvage.{Salvage}
use Rattle.salvage_report.specs.declared.left.Left.{Left}
use Rattle.core_stacks.specs.Named.{ProcessOrNamed}
use Rattle.core_stacks.specs.Process.{OpenedProcess}
use Rattle.py_process.specs.Reports.{memory_in}
use Rattle.thread_names.specs.declared.names.InterpreterNames.{InterpreterNames}
use Rattle.memory_sections.specs.Each.{EachTold}
use Rattle.memory_sections.specs.Exceptions.{AreExceptions}
use Rattle.memory_sections.specs.Heap.{AreHeaps}
use Rattle.memory_sections.specs.Pairs.{ArePairs}
use Rattle.py_heap.specs.declared.heap.Heaps.{Heaps}
use Rattle.memory_sections.specs.Waits.{AreWaits}
use Rattle.memory_sections.specs.Told.{AreNamesOf, AreNative, AreTasksOf, coroutine_rule_of, rule_of, slot_share}
use Rattle.native_stacks.specs.declared.stacks.NativeStacks.{NativeStacks}
use Rattle.paired_stacks.specs.declared.stack.PairedStack.{PairedStack}
use Rattle.py_records.specs.Versions.{records_of}
use Rattle.exception_texts.specs.declared.told.InterpreterExceptions.{InterpreterExceptions}
use Rattle.py_waits.specs.declared.told.InterpreterWaits.{InterpreterWaits}
use Rattle.task_texts.specs.declared.told.InterpreterTasks.{InterpreterTasks}
use Rattle.salvage_report.specs.Outcome.{IsLeft, tables_for}
use Rattle.named_images.specs.Named.{images_read}
use Rattle.program_run.specs.Reading.{AreRead}
use Rattle.salvage_report.specs.Reading.{files_of}
use Rattle.salvage_report.specs.LayoutChecked.{layout_checked}
use Rattle.salvage_report.specs.Pointers.{pointers_of}
use Rattle.memory_sections.specs.Pythons.{python_threads}
use Rattle.salvage_report.specs.Sections.{own_id, registers_shown}
use Rattle.salvage_report.specs.Texts.{shown_left}
use Rattle.local_values.specs.Addresses.{shown_addresses}
use Rattle.local_values.specs.Values.{AreLocalValues}
use Rattle.local_values.specs.declared.values.LocalValues.{LocalValues}
use Rattle.memory_sections.specs.Locals.{levels_of, types_told}
use Rattle.shown_values.specs.Values.{AreShown}

-- the tables that a file of records says, and none where there is no file
abbrev pub AreTables : List (List ℕ) → List RecordTable → Type 0
AreTables [] tables = tables ≡ []
AreTables (text ∷ others) tables = AreRightFor text (Ok tables)

-- The text of what is left of a process was written, or its JSON where the words ask for that: of at least one
-- interpreter, and of the fronts over the memory of the core and its images, each interpreter with its own lock, and
-- the thread that the core's first status record is of, and what is told in the sections that are asked for
-- (`IsLeft`): by the tables that the file of records says, where one is named, by the bytes of the core, by the
-- layouts that the files gave, and by all the images, each under its path. Which bytes a file gave is said where the
-- files tell, and what was written where the stream tells.
pub record HasSalvaged (s : Salvage) (told : Told) (old new : SinkSeen) : Type 0 where
  pub records : List (List ℕ)
  pub core : List ℕ
  pub text : List ℕ
  pub images : List (List ℕ)
  pub all_tables : List RecordTable
  pub judged : AreTables records all_tables
  pub read : AreRead told (files_of s) (records ++ core ∷ text ∷ images)
  pub layouts : List Layout
  pub says : IsRightFor text (Ok layouts)
  pub opened : OpenedProcess
  pub is_opened : ProcessOrNamed core (images_read s.images images) layouts (Ok opened)
  -- none of them counts where the names of files alone tell the version
  pub tables : List RecordTable
  pub tables_are : tables ≡ tables_for all_tables opened
  pub left : Left
  pub is_left : IsLeft s tables core (images_read s.images images) opened left
  pub some : left.salvaged.interpreters.items ≢ []
  pub written : Appends old.written new.written (shown_left s left)

-- ---- the sections: each that is asked for is told, by the notes of the core

-- the report tells how the signal came about, by the core's notes
pub record SaysSignal (s : Salvage) (told : Told) (old new : SinkSeen) : Type 0 where
  pub has : HasSalvaged s told old new
  pub notes : List Noted
  pub are : AreNotesOfCore has.core notes
  pub is : has.left.told.signal ≡ Some (signal_told (own_id has.left.process) notes)

-- the report tells each thread's registers, by the core's notes
pub record SaysRegisters (s : Salvage) (told : Told) (old new : SinkSeen) : Type 0 where
  pub has : HasSalvaged s told old new
  pub notes : List Noted
  pub are : AreNotesOfCore has.core notes
  pub is : registers_shown has.left.told.registers ≡ Some
      (threads_told (machine_of has.core) (python_threads has.left.salvaged.interpreters.items) notes)

-- What the process says of its layout: it is what the words of its own types and of its own table say, over the memory
-- of the core and its images, and the known answers are what the words say to which the layout leads from the threads
-- that are shown, beside the thread pointers that the core's notes tell. Where the layout agrees, each of its numbers
-- that is told is the process's, the needed ones are told, and of eight frames that were met one has an answer that is
-- right; where it differs, a number that is told is another one.
pub record SaysLayout (s : Salvage) (told : Told) (old new : SinkSeen) : Type 0 where
  pub has : HasSalvaged s told old new
  pub check : LayoutCheck
  pub is : has.left.check ≡ Some check
  pub notes : List Noted
  pub are : AreNotesOfCore has.core notes
  pub checked : layout_checked has.opened has.left.salvaged.interpreters.items
      (pointers_of (machine_of has.core) notes) ≡ Ok (check_shown check)
  pub says : Says (check_shown check)

-- ---- the sections that are read in the memory of the core and its images

-- The names of the threads that are shown, as each interpreter's own module keeps them, by the rule of instances' dicts
-- where the records that the tables have for the version say it (`names_told` of thread_names).
pub record SaysNames (s : Salvage) (told : Told) (old new : SinkSeen) : Type 0 where
  pub has : HasSalvaged s told old new
  pub names : Vec InterpreterNames Global
  pub is : has.left.memory.names ≡ Some names
  pub are : EachTold (AreNamesOf has.opened.layout
      (rule_of has.opened.layout (records_of has.tables has.opened.version)) (memory_in has.opened.dumped))
      has.left.salvaged.interpreters.items names.items

-- The tasks of asyncio of the interpreters that are shown, by the records that the tables have for the version: of each
-- interpreter exactly its registered objects, each once, or why they are not told (`tasks_at` of py_tasks).
pub record SaysTasks (s : Salvage) (told : Told) (old new : SinkSeen) : Type 0 where
  pub has : HasSalvaged s told old new
  pub tasks : Vec InterpreterTasks Global
  pub is : has.left.memory.tasks ≡ Some tasks
  pub are : EachTold (AreTasksOf has.opened.layout (records_of has.tables has.opened.version)
      (memory_in has.opened.dumped) (slot_share (length has.left.salvaged.interpreters.items)))
      has.left.salvaged.interpreters.items tasks.items

-- The exceptions of the threads that are shown: what each raises and handles, and all that this leads to, each once
-- (`IsTold` of py_exceptions), and the last one of each interpreter that no code handled (`IsLast`), by the records
-- that the tables have for the version, or that these don't describe it.
pub record SaysExceptions (s : Salvage) (told : Told) (old new : SinkSeen) : Type 0 where
  pub has : HasSalvaged s told old new
  pub exceptions : Vec InterpreterExceptions Global
  pub is : has.left.memory.exceptions ≡ Some exceptions
  pub are : AreExceptions has.opened.layout (records_of has.tables has.opened.version)
      (memory_in has.opened.dumped) has.left.salvaged.interpreters.items exceptions

-- What the threads that are shown wait for: each by where its status record says that it stands, by the places that the
-- records say which the tables have for the version (`wait_at` of py_waits).
pub record SaysWaits (s : Salvage) (told : Told) (old new : SinkSeen) : Type 0 where
  pub has : HasSalvaged s told old new
  pub waits : Vec InterpreterWaits Global
  pub is : has.left.memory.waits ≡ Some waits
  pub are : AreWaits has.core has.opened.known has.opened.layout (records_of has.tables has.opened.version)
      (memory_in has.opened.dumped) has.left.salvaged.interpreters.items waits

-- the native stacks of the threads that the core's notes tell, without guesses where that is asked for; where it is
-- asked for, of the first one alone, which is the one that got the signal
pub record SaysNative (s : Salvage) (told : Told) (old new : SinkSeen) : Type 0 where
  pub has : HasSalvaged s told old new
  pub stacks : NativeStacks
  pub is : has.left.memory.native ≡ Some stacks
  pub are : AreNative s.sections.strict s.sections.crashed has.core (images_read s.images has.images)
      (memory_in has.opened.dumped) (python_threads has.left.salvaged.interpreters.items) stacks

-- Of each of these which of its frames runs which of Python's: from 3.11 on by where the borders of the runs lie, and
-- up to 3.10 by the order of both (`ArePaired` of paired_stacks).
pub record SaysStacks (s : Salvage) (told : Told) (old new : SinkSeen) : Type 0 where
  pub has : HasSalvaged s told old new
  pub natives : NativeStacks
  pub natives_are : has.left.memory.native ≡ Some natives
  pub stacks : Vec (Option PairedStack) Global
  pub is : has.left.memory.stacks ≡ Some stacks
  pub are : ArePairs has.core has.opened.known has.opened.version has.opened.layout
      (records_of has.tables has.opened.version) (memory_in has.opened.dumped) has.left.salvaged.interpreters.items
      natives stacks

-- The objects of each interpreter that is shown, by class: those of the lists of the collector, up to where each is
-- torn or cut (`IsHeapAt` of py_heap), by the places that the tables have for the version and the records for classes.
pub record SaysHeap (s : Salvage) (told : Told) (old new : SinkSeen) : Type 0 where
  pub has : HasSalvaged s told old new
  pub heaps : Heaps
  pub is : has.left.memory.heap ≡ Some heaps
  pub are : AreHeaps has.opened.known has.opened.version has.opened.layout (records_of has.tables has.opened.version)
      (memory_in has.opened.dumped) has.left.salvaged.interpreters.items heaps

-- The values of the locals of the frames that are shown, by so many `-l`: those of memory, by the types that the
-- symbols of the process's images name, with the attributes of instances where the records that the tables have for
-- the version say how these have their dicts, and with the names and the states of coroutines and generators where they
-- say how these stand in memory (`repr_at` of py_reprs); and of each its text and, where JSON is asked for, its JSON
-- (`Writes` of repr_texts, `IsJson` of repr_json).
pub record SaysValues (s : Salvage) (told : Told) (old new : SinkSeen) : Type 0 where
  pub has : HasSalvaged s told old new
  pub values : LocalValues
  pub is : has.left.memory.values ≡ Some values
  pub are : AreLocalValues has.opened.layout
      (types_told (rule_of has.opened.layout (records_of has.tables has.opened.version))
      (coroutine_rule_of has.opened.layout (records_of has.tables has.opened.version)) has.opened.known
      has.opened.layout (memory_in has.opened.dumped)) (levels_of s.locals)
      (memory_in has.opened.dumped) has.left.salvaged.interpreters.items values
  pub shown : AreShown s.json (Some values) (shown_addresses has.left.salvaged.interpreters.items) has.left.values
