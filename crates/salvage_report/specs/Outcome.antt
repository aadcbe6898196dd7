-- What is come to over the contents of the files.
use Rattle.std.specs.Prelude.{◌≡◌, ◌≢◌, ℕ, ◌+◌, nat_eq, not, if◌then◌else◌, is_some, List}
use Rattle.std.specs.Prelude.{[], ◌∷◌, length, Option, Some, None, Result, Ok, Err, Vec}
use Rattle.std.specs.Global.{Global}
use Rattle.elf64_core.specs.Header.{machine_of}
use Rattle.image_memory.specs.Images.{Pushed}
use Rattle.image_memory.specs.Maps.{AreMaps, in_maps}
use Rattle.image_memory.specs.declared.maps.CoreMapRange.{CoreMapRange}
use Rattle.heap_search.specs.Salvaged.{salvaged_or_searched}
use Rattle.py_fields.specs.declared.layout.Layout.{Layout}
use Rattle.py_layout.specs.File.{IsRightFor}
use Rattle.py_stacks.specs.declared.asked.Asked.{Asked}
use Rattle.py_stacks.specs.declared.asked.LineNo.TheVariants.{LastInstruction}
use Rattle.py_process.specs.Reports.{NotesTell, memory_in}
use Rattle.py_records.specs.File.{IsRightFor as AreRightFor}
use Rattle.py_records.specs.declared.error.RecordsError.{RecordsError}
use Rattle.py_records.specs.declared.error.RecordsError.TheVariants as records
use Rattle.py_records.specs.declared.table.RecordTable.{RecordTable}
use Rattle.py_records.specs.Versions.{records_of}
use Rattle.memory_sections.specs.Told.{AreMemoryTold}
use Rattle.py_fronts.specs.declared.search.Looked.{Looked}
use Rattle.py_fronts.specs.Salvaged.{SalvagedShown, locked}
use Rattle.py_fronts.specs.declared.crash.Crash.{Crash}
use Rattle.py_fronts.specs.declared.salvaged.Salvaged.{Salvaged}
use Rattle.py_fronts.specs.declared.salvaged.SalvagedInterpreter.{SalvagedInterpreter}
use Rattle.salvage_words.specs.Salvage.{Salvage}
use Rattle.salvage_report.specs.declared.cause.Cause.{Cause}
use Rattle.salvage_report.specs.declared.cause.Cause.TheVariants.{Core, Layouts, NoInterpreter, OutOfMemory, Records}
use Rattle.salvage_report.specs.declared.left.Left.{Left}
use Rattle.salvage_report.specs.Crashed.{CrashTold}
use Rattle.salvage_report.specs.Pointers.{PointersTold}
use Rattle.core_stacks.specs.Named.{ProcessOrNamed}
use Rattle.core_stacks.specs.Process.{OpenedProcess}
use Rattle.named_images.specs.Named.{images_read}
use Rattle.program_run.specs.Outcomes.{IsAnswerBy, OutcomeThen, status_by}
pub use Rattle.program_run.specs.Statuses.{core_status, layouts_status}
use Rattle.salvage_report.specs.LayoutChecked.{CheckIs, layout_checked}
use Rattle.salvage_report.specs.Sections.{AreTold}
use Rattle.salvage_report.specs.Texts.{shown_left}
use Rattle.shown_values.specs.Values.{AreShown}
use Rattle.local_values.specs.Addresses.{shown_addresses}
use Rattle.std.specs.Prelude.{map}

-- a text, or the cause why there is none
abbrev pub Outcome : Type 0
Outcome = Result (List ℕ) Cause

-- ---- what is left of a process

-- what is asked for of each frame: the line of its last instruction, and locals where the words ask for them
abbrev pub asked_of : Salvage → Asked
asked_of s = record { lineno = LastInstruction; locals = not (nat_eq s.locals 0) }

-- what is left of the interpreters of an opened process, as values
abbrev pub salvaged_of : Salvaged → SalvagedShown
salvaged_of s = record {
  interpreters = map locked s.interpreters.items;
  more = s.more;
  looked = s.looked;
  crash = s.crash;
}

-- a search of the heap goes by the load segments of the core, and by the thread pointers that its status records tell
pub record SearchesBy (bytes : List ℕ) (segments : List CoreMapRange) (pointers : List ℕ) : Type 0 where
  pub are : AreMaps bytes segments
  pub told : PointersTold bytes pointers

-- it is what the fronts over the memory of the core and its images are, each interpreter with its own lock; where there
-- is none, those that the search of its heap finds
abbrev pub left_at : Salvage → List ℕ → OpenedProcess → Option Crash → List CoreMapRange → (pointers : List ℕ)
    → SalvagedShown
left_at s bytes o crash segments pointers = salvaged_or_searched (in_maps o.dumped.maps) (machine_of bytes) o.known
    o.version o.layout (memory_in o.dumped) (asked_of s) s.limit crash segments pointers

-- what is left of an opened process, with what the notes of its core tell, and the sections that are asked for
pub record IsLeft (s : Salvage) (ts : List RecordTable) (bytes : List ℕ) (images : Pushed) (o : OpenedProcess)
    (left : Left) : Type 0 where
  pub version_is : left.version ≡ o.version
  pub named_is : left.named ≡ is_some o.untold
  pub notes : NotesTell bytes left.signal left.process
  pub crash : CrashTold bytes left.salvaged.crash
  pub segments : List CoreMapRange
  pub pointers : List ℕ
  pub by : SearchesBy bytes segments pointers
  pub salvaged : salvaged_of left.salvaged ≡ left_at s bytes o left.salvaged.crash segments pointers
  pub told : AreTold s.sections bytes left.process left.salvaged.interpreters.items left.told
  pub check : CheckIs s.sections.check_layout bytes (layout_checked o left.salvaged.interpreters.items) left.check
  pub memory : AreMemoryTold s.sections s.locals bytes images o.known o.version o.layout
      (records_of ts o.version) (memory_in o.dumped) left.salvaged.interpreters.items left.memory
  pub values : AreShown s.json left.memory.values (shown_addresses left.salvaged.interpreters.items) left.values

-- the text, or that no interpreter is shown, with what was looked at
abbrev pub shown_or_none : List SalvagedInterpreter → Looked → List ℕ → Outcome
shown_or_none [] looked text = Err (NoInterpreter looked.addresses looked.members)
shown_or_none (i ∷ is) looked text = Ok text

-- the text of what is left, or that no interpreter is shown
abbrev pub left_outcome : Salvage → Left → Outcome
left_outcome s left = shown_or_none left.salvaged.interpreters.items left.salvaged.looked (shown_left s left)

-- the outcome for an opened process
abbrev pub IsLeftOf : Salvage → List RecordTable → List ℕ → Pushed → OpenedProcess → Outcome → Type 0
IsLeftOf s ts bytes images o outcome = (left : Left) × IsLeft s ts bytes images o left × (outcome ≡ left_outcome s left)

-- ---- over the contents of the files

-- the tables of records that count: none where the names of files alone tell the version, since its patch isn't known
abbrev pub tables_for : List RecordTable → OpenedProcess → List RecordTable
tables_for ts o = if is_some o.untold then [] else ts

-- a core and its images by these layouts, and by these tables of records
abbrev pub IsSalvagedBy : Salvage → List RecordTable → List ℕ → Pushed → List Layout → Outcome → Type 0
IsSalvagedBy s ts bytes images layouts outcome =
    OutcomeThen (λ error. Core error) (ProcessOrNamed bytes images layouts)
    (λ o. IsLeftOf s (tables_for ts o) bytes images o) outcome

-- by the files of the core: the layouts are judged, and then the process is opened, and its interpreters are looked for
abbrev pub IsCoreOutcome : Salvage → List RecordTable → List (List ℕ) → Outcome → Type 0
IsCoreOutcome s ts (bytes ∷ text ∷ images) outcome = OutcomeThen (λ error. Layouts error) (IsRightFor text)
    (IsSalvagedBy s ts bytes (images_read s.images images)) outcome
IsCoreOutcome s ts _ outcome = ⊥

-- the records are judged first, where there is a file of them; else no record is told
abbrev pub IsOutcomeWith : Option (List ℕ) → Salvage → List (List ℕ) → Outcome → Type 0
IsOutcomeWith None s contents outcome = IsCoreOutcome s [] contents outcome
IsOutcomeWith (Some text) s contents outcome =
    OutcomeThen (λ error. Records error) (AreRightFor text) (λ tables. IsCoreOutcome s tables contents) outcome

-- the outcome over what the files hold, with a file of records or without one
abbrev pub IsOutcomeBy : Option (List ℕ) → Salvage → List (List ℕ) → Outcome → Type 0
IsOutcomeBy None s contents outcome = IsOutcomeWith None s contents outcome
IsOutcomeBy (Some name) s (text ∷ contents) outcome = IsOutcomeWith (Some text) s contents outcome
IsOutcomeBy (Some name) s [] outcome = ⊥

-- what is come to over the contents of all files, in the order in which they are read
abbrev pub IsOutcome : Salvage → List (List ℕ) → Outcome → Type 0
IsOutcome s contents outcome = IsOutcomeBy s.records s contents outcome

-- ---- contents with which nothing is wrong: the process can be opened, and an interpreter is shown

-- the process opens, and some interpreter is shown
pub record IsShowable (s : Salvage) (bytes : List ℕ) (images : Pushed) (layouts : List Layout) : Type 0 where
  pub opened : OpenedProcess
  pub is_opened : ProcessOrNamed bytes images layouts (Ok opened)
  pub crash : Option Crash
  pub segments : List CoreMapRange
  pub pointers : List ℕ
  pub by : SearchesBy bytes segments pointers
  pub shown : (left_at s bytes opened crash segments pointers).interpreters ≢ []

-- no cause applies to the core, the layouts and the images
abbrev pub IsCoreFaultless : Salvage → List (List ℕ) → Type 0
IsCoreFaultless s (bytes ∷ text ∷ images) = (layouts : List Layout) × IsRightFor text (Ok layouts)
    × IsShowable s bytes (images_read s.images images) layouts
IsCoreFaultless s _ = ⊥

-- no cause applies to the files, with a file of records or without one
abbrev pub IsFaultlessBy : Option (List ℕ) → Salvage → List (List ℕ) → Type 0
IsFaultlessBy None s contents = IsCoreFaultless s contents
IsFaultlessBy (Some name) s (text ∷ contents) =
    (tables : List RecordTable) × AreRightFor text (Ok tables) × IsCoreFaultless s contents
IsFaultlessBy (Some name) s [] = ⊥

-- no cause applies to the files that the arguments name
abbrev pub IsFaultless : Salvage → List (List ℕ) → Type 0
IsFaultless s contents = IsFaultlessBy s.records s contents

-- ---- statuses

-- a file of records that is refused
abbrev pub records_status : RecordsError → ℕ
records_status records.OutOfMemory = 5
records_status _ = 6

-- out of memory has one status, wherever it came
abbrev pub cause_status : Cause → ℕ
cause_status (Core error) = core_status error
cause_status (Layouts error) = layouts_status error
cause_status (Records error) = records_status error
cause_status (NoInterpreter addresses members) = 1
cause_status OutOfMemory = 5

-- the status of an outcome
abbrev pub outcome_status : Outcome → ℕ
outcome_status outcome = status_by cause_status outcome

-- the answer of some work is right, unless memory ran out
abbrev pub IsAnswer : (Outcome → Type 0) → Result (Vec ℕ Global) Cause → Type 0
IsAnswer Right result = IsAnswerBy cause_status Right result
