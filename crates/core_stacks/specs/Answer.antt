-- What a walk over a core's bytes answers: the traces, or the first cause why there are none. The file is
-- looked at first, then the version, then the lock's holder and the chain of threads.
use Rattle.std.specs.Prelude.{◌≡◌, ℕ, List, Option, Some, None, Result, Ok, Err, ⊤, map}
use Rattle.std.specs.Global.{Vec}
use Rattle.image_memory.specs.Cores.{IsCore, RefusesCore}
use Rattle.image_memory.specs.declared.dump_error.DumpError.TheVariants as dump
use Rattle.process_memory.specs.Memory.{Memory, Fault, byte_at}
use Rattle.process_memory.specs.Memory.Fault.{Missing, ThreadLimit as ManyThreads, FrameLimit as ManyFrames}
use Rattle.process_memory.specs.Memory.Fault.{ChainLimit as ManyMembers}
use Rattle.image_memory.specs.Pieces.{memory_of}
use Rattle.process_memory.specs.Walk.{first_fault}
use Rattle.py_fields.specs.declared.layout.Layout.{Layout}
use Rattle.py_fields.specs.declared.version.Version.{Version}
use Rattle.py_stacks.specs.declared.trace.Addresses.{Addresses}
use Rattle.py_stacks.specs.declared.trace.StackTrace.{StackTrace}
use Rattle.py_stacks.specs.Asking.{nothing}
use Rattle.py_stacks.specs.Stacks.{AreStacks, stacks_faults}
use Rattle.py_stacks.specs.Threads.{Trace, trace_of}
use Rattle.py_process.specs.Findings.{IsChosen, LayoutSays}
use Rattle.py_process.specs.Steps.{Then}
use Rattle.py_process.specs.declared.core_error.CoreError.{CoreError}
use Rattle.py_process.specs.declared.core_error.CoreError.TheVariants.{NotElf64, BadHeader, NoNotes, BadNote}
use Rattle.py_process.specs.declared.core_error.CoreError.TheVariants.{Unreadable, ThreadLimit, FrameLimit, ChainLimit}
use Rattle.py_process.specs.declared.core_error.CoreError.TheVariants.{OutOfMemory}

-- the core's memory
abbrev pub core_memory : List ℕ → Memory
core_memory bytes = byte_at (memory_of bytes)

-- the first fault on the way to the lock's holder and along the threads of an interpreter
abbrev pub fault_by : Layout → List ℕ → Addresses → Option Fault
fault_by layout bytes addresses =
    first_fault (stacks_faults nothing layout (core_memory bytes) addresses.lock addresses.interpreter)

-- ---- the steps

-- the bytes are those of a core, or why they are none
abbrev pub CoreFileSays : List ℕ → Result (Unit {0}) CoreError → Type 0
CoreFileSays bytes (Ok _) = IsCore bytes
CoreFileSays bytes (Err NotElf64) = RefusesCore bytes dump.NotElf64
CoreFileSays bytes (Err BadHeader) = RefusesCore bytes dump.BadHeader
CoreFileSays bytes (Err NoNotes) = RefusesCore bytes dump.NoNotes
CoreFileSays bytes (Err BadNote) = RefusesCore bytes dump.BadNote
CoreFileSays bytes (Err OutOfMemory) = ⊤
CoreFileSays bytes (Err _) = ⊥

-- a value where there is no fault, and else the first one: a missing range, or a limit. No fault of locals comes,
-- since a walk asks for none
abbrev pub FaultsSay : {T : Type 0} → Option Fault → (T → Type 0) → Result T CoreError → Type 0
FaultsSay first Has (Ok value) = (first ≡ None) × Has value
FaultsSay first Has (Err (Unreadable addr len)) = first ≡ Some (Missing addr len)
FaultsSay first Has (Err ThreadLimit) = first ≡ Some ManyThreads
FaultsSay first Has (Err FrameLimit) = first ≡ Some ManyFrames
FaultsSay first Has (Err ChainLimit) = first ≡ Some ManyMembers
FaultsSay first Has (Err OutOfMemory) = ⊤
FaultsSay first Has (Err _) = ⊥

-- the traces of the interpreter's threads by this layout, or the first fault
abbrev pub WalkSays : List ℕ → Addresses → Layout → Result (List Trace) CoreError → Type 0
WalkSays bytes addresses layout = FaultsSay (fault_by layout bytes addresses)
    (AreStacks nothing layout (core_memory bytes) addresses.lock addresses.interpreter)

-- the traces, or the first cause: of the file, of the layouts, of the walk
abbrev pub Means : List ℕ → List Layout → Version → Addresses → Result (List Trace) CoreError → Type 0
Means bytes layouts version addresses =
    Then (CoreFileSays bytes) (λ _. Then (LayoutSays layouts version) (WalkSays bytes addresses))

-- a result with the traces that contracts see
abbrev pub traced : {E : Type 0} → Result (Vec StackTrace) E → Result (List Trace) E
traced (Ok v) = Ok (map trace_of v.items)
traced (Err e) = Err e

-- the bytes are those of a core, a layout covers the version, and no fault is met on the way
pub record IsWalkable (bytes : List ℕ) (layouts : List Layout) (version : Version)
    (addresses : Addresses) : Type 0 where
  pub core : IsCore bytes
  pub layout : Layout
  pub chosen : IsChosen layouts version layout
  pub faultless : fault_by layout bytes addresses ≡ None
