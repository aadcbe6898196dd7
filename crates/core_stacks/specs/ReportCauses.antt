-- Why there is no report of a core: which causes come at all, and which ranges of memory may be missing.
use Rattle.std.specs.Prelude.{◌≡◌, ◌⊎◌, ℕ, true, List, Some, Ok, Err, ⊤}
use Rattle.elf64_core.specs.Header.{machine_of}
use Rattle.image_memory.specs.Images.{Pushed}
use Rattle.image_memory.specs.Maps.{in_maps}
use Rattle.process_memory.specs.Memory.{Fault}
use Rattle.process_memory.specs.Memory.Fault.{Missing, BadValue as IsBadValue, LocalsLimit as ManyLocals}
use Rattle.py_fields.specs.declared.layout.Layout.{Layout}
use Rattle.py_fields.specs.declared.version.Version.{Version}
use Rattle.py_stacks.specs.declared.config.Config.{Config}
use Rattle.py_process.specs.Candidates.{IsFirstOf, candidates_of}
use Rattle.py_process.specs.Facts.{Known}
use Rattle.py_process.specs.Findings.{Finding, IsChosen, IsFound}
use Rattle.py_process.specs.Lock.{lock_address_of}
use Rattle.py_process.specs.Programs.{ArePrograms, IsKnown, Programs}
use Rattle.py_process.specs.Reports.{Dumped, IsDumped, memory_in}
use Rattle.py_process.specs.Sources.{FirstTells, sources_of}
use Rattle.py_process.specs.Variables.{IsRestFault}
use Rattle.py_process.specs.declared.core_error.CoreError.{CoreError}
use Rattle.py_process.specs.declared.core_error.CoreError.TheVariants.{NotElf64, BadHeader, NoNotes, BadNote, NoBinary}
use Rattle.py_process.specs.declared.core_error.CoreError.TheVariants.{NoImage, BadImage, UnreadableVersion, NoVersion}
use Rattle.py_process.specs.declared.core_error.CoreError.TheVariants.{UnsupportedVersion, NoInterpreter, Unreadable}
use Rattle.py_process.specs.declared.core_error.CoreError.TheVariants.{NativeUnsupported, SubprocessesUnsupported}
use Rattle.py_process.specs.declared.core_error.CoreError.TheVariants.{BadValue, LocalsLimit, ThreadLimit, FrameLimit}
use Rattle.py_process.specs.declared.core_error.CoreError.TheVariants.{ChainLimit, OutOfMemory}

-- the interpreter is found, and these bytes of the pointer to its lock aren't in memory
pub record ReportLacksLock (bytes : List ℕ) (images : Pushed) (layouts : List Layout) (addr len : ℕ) : Type 0 where
  pub dumped : Dumped
  pub is_dumped : IsDumped bytes images dumped
  pub programs : Programs
  pub are_programs : ArePrograms dumped.maps programs
  pub known : Known
  pub is_known : IsKnown images programs known
  pub version : Version
  pub told : FirstTells (memory_in dumped) (sources_of known) (Ok (Some version))
  pub layout : Layout
  pub chosen : IsChosen layouts version layout
  pub interpreter : ℕ
  pub first : IsFirstOf (in_maps dumped.maps) layout (memory_in dumped)
      (candidates_of known version layout (memory_in dumped)) interpreter
  pub lacks : lock_address_of (machine_of bytes) known version layout (memory_in dumped) interpreter ≡ Err
      (Missing addr len)

-- the process is found, and this is a fault of the rest of its stacks: of the lock's holder (the lock's record or word,
-- or the holder's record), or, where locals are asked for, of those of a kept member (their count, the record of their
-- tuple of names, the word that names one, its name, its slot)
pub record MeetsRest (bytes : List ℕ) (images : Pushed) (layouts : List Layout) (config : Config)
    (fault : Fault) : Type 0 where
  pub dumped : Dumped
  pub is_dumped : IsDumped bytes images dumped
  pub finding : Finding
  pub found : IsFound (memory_in dumped) (machine_of bytes) dumped.maps images layouts finding
  pub rest : IsRestFault (memory_in dumped) finding config fault

-- the causes that come: no limit of threads, of frames or of members is among them, and no missing range but those
abbrev pub IsReportCause : List ℕ → Pushed → List Layout → Config → CoreError → Type 0
IsReportCause bytes images layouts config NotElf64 = ⊤
IsReportCause bytes images layouts config BadHeader = ⊤
IsReportCause bytes images layouts config NoNotes = ⊤
IsReportCause bytes images layouts config BadNote = ⊤
IsReportCause bytes images layouts config NoBinary = ⊤
IsReportCause bytes images layouts config (NoImage path) = ⊤
IsReportCause bytes images layouts config (BadImage path) = ⊤
IsReportCause bytes images layouts config (UnreadableVersion addr len) = ⊤
IsReportCause bytes images layouts config NoVersion = ⊤
IsReportCause bytes images layouts config (UnsupportedVersion named) = ⊤
IsReportCause bytes images layouts config NoInterpreter = ⊤
IsReportCause bytes images layouts config (Unreadable addr len) =
    ReportLacksLock bytes images layouts addr len ⊎ MeetsRest bytes images layouts config (Missing addr len)
IsReportCause bytes images layouts config NativeUnsupported = config.native ≡ true
IsReportCause bytes images layouts config SubprocessesUnsupported = config.subprocesses ≡ true
IsReportCause bytes images layouts config (BadValue frame) = MeetsRest bytes images layouts config (IsBadValue frame)
IsReportCause bytes images layouts config (LocalsLimit count) = MeetsRest bytes images layouts config (ManyLocals count)
IsReportCause bytes images layouts config ThreadLimit = ⊥
IsReportCause bytes images layouts config FrameLimit = ⊥
IsReportCause bytes images layouts config ChainLimit = ⊥
IsReportCause bytes images layouts config OutOfMemory = ⊤
