-- What a report says of a core and its images, and why there is none.
use Rattle.std.specs.Prelude.{◌≡◌, ℕ, ℤ, pos, true, false, List, [], ◌∷◌, map, Option, Some, None, option_map}
use Rattle.std.specs.Prelude.{unwrap_or, Result, Ok, Err, ⊤, Vec}
use Rattle.std.specs.Global.{Global}
use Rattle.bstr.specs.Utf8.{lossy_chars}
use Rattle.elf64_core.specs.Header.{machine_of}
use Rattle.elf64_core.specs.Nul.{until_nul}
use Rattle.image_memory.specs.Backed.{IsBackedMemory}
use Rattle.image_memory.specs.Cores.{IsCore, RefusesCore}
use Rattle.image_memory.specs.Images.{Pushed}
use Rattle.image_memory.specs.Maps.{AreMaps, in_maps}
use Rattle.image_memory.specs.Notes.{AreStatuses, IsProcess}
use Rattle.image_memory.specs.declared.dump_error.DumpError.TheVariants as dump
use Rattle.image_memory.specs.declared.maps.CoreMapRange.{CoreMapRange}
use Rattle.image_memory.specs.declared.records.elf_prstatus.{elf_prstatus}
use Rattle.image_memory.specs.declared.records.elf_prpsinfo.{elf_prpsinfo}
use Rattle.process_memory.specs.Memory.{Memory, Region, Fault, byte_at}
use Rattle.process_memory.specs.Memory.Fault.{Missing, BadValue as IsBadValue, LocalsLimit as ManyLocals}
use Rattle.process_memory.specs.Memory.Fault.{ThreadLimit as ManyThreads, FrameLimit as ManyFrames}
use Rattle.process_memory.specs.Memory.Fault.{ChainLimit as ManyMembers}
use Rattle.process_memory.specs.Walk.{first_fault}
use Rattle.py_fields.specs.declared.layout.Layout.{Layout}
use Rattle.py_fields.specs.declared.version.Version.{Version}
use Rattle.py_stacks.specs.Asking.{asked_of, nothing}
use Rattle.py_stacks.specs.Frames.{Call}
use Rattle.py_stacks.specs.Stacks.{stacks_faults}
use Rattle.py_stacks.specs.StacksOver.{AreStacksOver}
use Rattle.py_stacks.specs.Threads.{AreTraces, Trace, trace_of}
use Rattle.py_stacks.specs.declared.config.Config.{Config}
use Rattle.py_stacks.specs.declared.trace.StackTrace.{StackTrace}
use Rattle.py_process.specs.Candidates.{IsFirstOf, candidates_of}
use Rattle.py_process.specs.Facts.{Known}
use Rattle.py_process.specs.Findings.{Finding, FindingIs, IsChosen, IsFound}
use Rattle.py_process.specs.Lock.{lock_address_of}
use Rattle.py_process.specs.Programs.{ArePrograms, IsKnown, Programs}
use Rattle.py_process.specs.Sources.{FirstTells, sources_of}
use Rattle.py_process.specs.Steps.{Then}
use Rattle.py_process.specs.Variables.{HasRest}
use Rattle.py_process.specs.declared.report.Report.{Report}
use Rattle.py_process.specs.declared.core_error.CoreError.{CoreError}
use Rattle.py_process.specs.declared.core_error.CoreError.TheVariants.{NotElf64, BadHeader, NoNotes, BadNote}
use Rattle.py_process.specs.declared.core_error.CoreError.TheVariants.{Unreadable, NativeUnsupported}
use Rattle.py_process.specs.declared.core_error.CoreError.TheVariants.{SubprocessesUnsupported, BadValue, LocalsLimit}
use Rattle.py_process.specs.declared.core_error.CoreError.TheVariants.{ThreadLimit, FrameLimit, ChainLimit, OutOfMemory}

-- what is dumped of a process: its maps, and the pieces of its memory
pub record Dumped : Type 0 where
  pub maps : List CoreMapRange
  pub pieces : List Region

-- by its core and the images that it mapped: what the core leaves out comes from these
pub record IsDumped (bytes : List ℕ) (images : Pushed) (d : Dumped) : Type 0 where
  pub are_maps : AreMaps bytes d.maps
  pub memory : IsBackedMemory bytes images d.pieces

-- the memory of a process, by what is dumped of it
abbrev pub memory_in : Dumped → Memory
memory_in d = byte_at d.pieces

-- ---- the stacks

-- neither native frames nor those of other processes are asked for
pub record AsksNoOther (config : Config) : Type 0 where
  pub native : config.native ≡ false
  pub subprocesses : config.subprocesses ≡ false

-- the first fault on the way to the lock's holder and along the threads
abbrev pub fault_on : Memory → Finding → Config → Option Fault
fault_on m f config =
    first_fault (stacks_faults (asked_of config) f.layout m f.addresses.lock f.addresses.interpreter)

-- neither native frames nor subprocesses are asked for, and this fault is met first
pub record MeetsFault (m : Memory) (f : Finding) (config : Config) (fault : Fault) : Type 0 where
  pub asks : AsksNoOther config
  pub first : fault_on m f config ≡ Some fault

-- no fault is met, and these are the traces
pub record HasStacks (m : Memory) (f : Finding) (config : Config) (traces : List Trace) : Type 0 where
  pub asks : AsksNoOther config
  pub faultless : fault_on m f config ≡ None
  pub are : AreStacksOver config f.layout m f.addresses.lock f.addresses.interpreter traces

-- the traces, or the first cause why there are none
abbrev pub StacksSay : Memory → Finding → Config → Result (List Trace) CoreError → Type 0
StacksSay m f config (Ok traces) = HasStacks m f config traces
StacksSay m f config (Err NativeUnsupported) = config.native ≡ true
StacksSay m f config (Err SubprocessesUnsupported) = (config.native ≡ false) × (config.subprocesses ≡ true)
StacksSay m f config (Err (Unreadable addr len)) = MeetsFault m f config (Missing addr len)
StacksSay m f config (Err (BadValue frame)) = MeetsFault m f config (IsBadValue frame)
StacksSay m f config (Err (LocalsLimit count)) = MeetsFault m f config (ManyLocals count)
StacksSay m f config (Err ThreadLimit) = MeetsFault m f config ManyThreads
StacksSay m f config (Err FrameLimit) = MeetsFault m f config ManyFrames
StacksSay m f config (Err ChainLimit) = MeetsFault m f config ManyMembers
StacksSay m f config (Err OutOfMemory) = ⊤
StacksSay m f config (Err _) = ⊥

-- a result with its traces in plain terms
abbrev pub traces_in : {E : Type 0} → Result (Vec StackTrace Global) E → Result (List Trace) E
traces_in (Ok v) = Ok (map trace_of v.items)
traces_in (Err e) = Err e

-- ---- the process

-- the signal of the first status record, if there is one
abbrev pub first_signal : List elf_prstatus → Option ℤ
first_signal [] = None
first_signal (status ∷ rest) = Some status.pr_cursig

-- what stands before the first nul, or all
abbrev pub up_to_nul : List ℕ → List ℕ
up_to_nul bytes = unwrap_or (until_nul bytes) bytes

-- the process's id, and its arguments up to the first nul, as characters
abbrev pub process_told : elf_prpsinfo → ℤ × List ℕ
process_told p = (p.pr_pid, lossy_chars (up_to_nul p.pr_psargs))

-- what the notes of a core tell of the process
pub record NotesTell (bytes : List ℕ) (signal : Option ℤ) (process : Option (ℤ × List ℕ)) : Type 0 where
  pub statuses : List elf_prstatus
  pub are_statuses : AreStatuses bytes statuses
  pub signal_is : signal ≡ first_signal statuses
  pub last : Option elf_prpsinfo
  pub is_last : IsProcess bytes last
  pub process_is : process ≡ option_map process_told last

-- ---- the report

-- what a report says
pub record Reported : Type 0 where
  pub signal : Option ℤ
  pub process : Option (ℤ × List ℕ)
  pub version : Version
  pub traces : List Trace

-- what a report says, in plain terms
abbrev pub reported_of : Report → Reported
reported_of r = record {
  signal = r.signal;
  process = r.process;
  version = r.version;
  traces = map trace_of r.traces.items;
}

-- a result with its report in plain terms
abbrev pub reported : {E : Type 0} → Result Report E → Result Reported E
reported (Ok r) = Ok (reported_of r)
reported (Err e) = Err e

-- what is dumped by a core and images, or why the bytes are no core's
abbrev pub CoreSays : List ℕ → Pushed → Result Dumped CoreError → Type 0
CoreSays bytes images (Ok d) = IsCore bytes × IsDumped bytes images d
CoreSays bytes images (Err NotElf64) = RefusesCore bytes dump.NotElf64
CoreSays bytes images (Err BadHeader) = RefusesCore bytes dump.BadHeader
CoreSays bytes images (Err NoNotes) = RefusesCore bytes dump.NoNotes
CoreSays bytes images (Err BadNote) = RefusesCore bytes dump.BadNote
CoreSays bytes images (Err OutOfMemory) = ⊤
CoreSays bytes images (Err _) = ⊥

-- a report of these traces
pub record TellsReport (bytes : List ℕ) (f : Finding) (traces : List Trace) (r : Reported) : Type 0 where
  pub version_is : r.version ≡ f.version
  pub traces_are : r.traces ≡ traces
  pub notes : NotesTell bytes r.signal r.process

-- a result is a report of these traces
abbrev pub IsTold : List ℕ → Finding → List Trace → Result Reported CoreError → Type 0
IsTold bytes f traces result = (r : Reported) × TellsReport bytes f traces r × (result ≡ Ok r)

-- what is reported where a process was found: its stacks, or the cause why there are none
abbrev pub AfterFinding : List ℕ → Dumped → Config → Finding → Result Reported CoreError → Type 0
AfterFinding bytes d config f = Then (StacksSay (memory_in d) f config) (IsTold bytes f)

-- what is reported where a core was read: what is found in it, and then its stacks
abbrev pub AfterCore : List ℕ → Pushed → List Layout → Config → Dumped → Result Reported CoreError → Type 0
AfterCore bytes images layouts config d =
    Then (FindingIs (memory_in d) (machine_of bytes) d.maps images layouts) (AfterFinding bytes d config)

-- the report of a core and its images, or the first cause why there is none: of the core, of the search, of the
-- stacks. The causes shut each other out, so that each comes exactly where it holds, out of memory aside
abbrev pub ReportIs : List ℕ → Pushed → List Layout → Config → Result Reported CoreError → Type 0
ReportIs bytes images layouts config = Then (CoreSays bytes images) (AfterCore bytes images layouts config)

-- ---- the same where there is a report, in two records: its threads are the whole chain, to null, of the first
-- candidate that is an interpreter's, each with its whole chain of callers, to null, less the skipped members

-- a frame by its two names and its two marks alone
abbrev pub bare_call : Call → Call
bare_call c = record c { «module» = None; short_filename = None; line = pos 0; locals = None }

-- a thread by its id and its frames so
abbrev pub bare_trace : Trace → ℕ × List Call
bare_trace t = (t.thread_id, map bare_call t.frames)

-- the version of a report, the ids of its threads, and their frames by names and marks: what else it says of them is
-- not asked for here, nor what can't be read of it
pub record HasFrames (bytes : List ℕ) (images : Pushed) (layouts : List Layout) (r : Reported) : Type 0 where
  pub core : IsCore bytes
  pub dumped : Dumped
  pub is_dumped : IsDumped bytes images dumped
  pub programs : Programs
  pub are_programs : ArePrograms dumped.maps programs
  pub known : Known
  pub is_known : IsKnown images programs known
  pub told : FirstTells (memory_in dumped) (sources_of known) (Ok (Some r.version))
  pub layout : Layout
  pub chosen : IsChosen layouts r.version layout
  pub interpreter : ℕ
  pub first : IsFirstOf (in_maps dumped.maps) layout (memory_in dumped)
      (candidates_of known r.version layout (memory_in dumped)) interpreter
  pub walked : List Trace
  pub are_walked : AreTraces nothing layout (memory_in dumped) interpreter walked
  pub threads : map bare_trace r.traces ≡ map bare_trace walked

-- that, and all else that a report says: of its stacks what is asked for, and what the notes tell
pub record IsRight (bytes : List ℕ) (images : Pushed) (layouts : List Layout)
    (config : Config) (r : Reported) : Type 0 where
  pub has : HasFrames bytes images layouts r
  pub lock : ℕ
  pub is_lock : lock_address_of (machine_of bytes) has.known r.version has.layout (memory_in has.dumped)
      has.interpreter ≡ Ok lock
  pub stacks : AreStacksOver config has.layout (memory_in has.dumped) lock has.interpreter r.traces
  pub notes : NotesTell bytes r.signal r.process

-- the input for which a report is owed
pub record IsReadable (bytes : List ℕ) (images : Pushed) (layouts : List Layout) (config : Config) : Type 0 where
  pub core : IsCore bytes
  pub dumped : Dumped
  pub is_dumped : IsDumped bytes images dumped
  pub finding : Finding
  pub found : IsFound (memory_in dumped) (machine_of bytes) dumped.maps images layouts finding
  pub asks : AsksNoOther config
  pub rest : HasRest (memory_in dumped) finding config
