-- A core of a Python process, as it is opened to read its stacks.
use Rattle.std.specs.Prelude.{◌≡◌, ◌⊎◌, ℕ, List, Result, Ok, Err, ⊤}
use Rattle.elf64_core.specs.declared.header.Machine.{Machine}
use Rattle.image_memory.specs.Backed.{IsBackedMemory}
use Rattle.image_memory.specs.Images.{Pushed}
use Rattle.image_memory.specs.Pieces.{memory_of}
use Rattle.image_memory.specs.declared.maps.CoreMapRange.{CoreMapRange}
use Rattle.process_memory.specs.Memory.{Memory, Region, byte_at}
use Rattle.process_memory.specs.Memory.Fault.{Missing, BadValue as IsBadValue, LocalsLimit as ManyLocals}
use Rattle.py_fields.specs.declared.layout.Layout.{Layout}
use Rattle.py_fields.specs.declared.version.Version.{Version}
use Rattle.py_stacks.specs.declared.config.Config.{Config}
use Rattle.py_stacks.specs.declared.trace.Addresses.{Addresses}
use Rattle.py_process.specs.Findings.{Finding, IsChosen, IsFound}
use Rattle.py_process.specs.Variables.{IsRestFault}
use Rattle.py_process.specs.declared.core_error.CoreError.{CoreError}
use Rattle.py_process.specs.declared.core_error.CoreError.TheVariants.{UnsupportedVersion, Unreadable}
use Rattle.py_process.specs.declared.core_error.CoreError.TheVariants.{NativeUnsupported, SubprocessesUnsupported}
use Rattle.py_process.specs.declared.core_error.CoreError.TheVariants.{BadValue, LocalsLimit, OutOfMemory}
use Rattle.core_stacks.specs.Seen.{FindsProcess}

-- a core of a process: its bytes, the pieces of the process's memory, and what is found of it
pub record Opened : Type 0 where
  pub core : List ℕ
  pub pieces : List Region
  pub finding : Finding

-- the memory of an opened process
abbrev pub opened_memory : Opened → Memory
opened_memory o = byte_at o.pieces

-- it is of this core and these images, and what is found of it is right
pub record IsOpened (bytes : List ℕ) (images : Pushed) (layouts : List Layout) (o : Opened) : Type 0 where
  pub core_is : o.core ≡ bytes
  pub memory : IsBackedMemory bytes images o.pieces
  pub finds : FindsProcess bytes images layouts (Ok o.finding)

-- the first cause why nothing is found; out of memory may always be answered
abbrev pub IsUnopened : List ℕ → Pushed → List Layout → CoreError → Type 0
IsUnopened bytes images layouts error = (error ≡ OutOfMemory) ⊎ FindsProcess bytes images layouts (Err error)

-- that of a core, or such a cause
abbrev pub Opens : List ℕ → Pushed → List Layout → Result Opened CoreError → Type 0
Opens bytes images layouts (Ok o) = IsOpened bytes images layouts o
Opens bytes images layouts (Err error) = IsUnopened bytes images layouts error

-- what is opened, without the binaries beside it
abbrev pub opened_first : {B : Type 0} → Result (Opened × B) CoreError → Result Opened CoreError
opened_first (Ok opened) = Ok opened.0
opened_first (Err e) = Err e

-- it is of this core alone, with the version and the addresses that were handed in
pub record IsOpenedAt (bytes : List ℕ) (layouts : List Layout) (version : Version) (addresses : Addresses)
    (o : Opened) : Type 0 where
  pub core_is : o.core ≡ bytes
  pub pieces_are : o.pieces ≡ memory_of bytes
  pub version_is : o.finding.version ≡ version
  pub addresses_are : o.finding.addresses ≡ addresses
  pub chosen : IsChosen layouts version o.finding.layout

-- that, or that no layout covers the version
abbrev pub OpensAt : List ℕ → List Layout → Version → Addresses → Result Opened CoreError → Type 0
OpensAt bytes layouts version addresses (Ok o) = IsOpenedAt bytes layouts version addresses o
OpensAt bytes layouts version addresses (Err (UnsupportedVersion named)) =
    (named ≡ version) × ((layout : Layout) → ¬ IsChosen layouts version layout)
OpensAt bytes layouts version addresses (Err OutOfMemory) = ⊤
OpensAt bytes layouts version addresses (Err _) = ⊥

-- what was found of it is right for some machine, maps, images and layouts
pub record IsFoundIn (o : Opened) : Type 0 where
  pub machine : Machine
  pub maps : List CoreMapRange
  pub images : Pushed
  pub layouts : List Layout
  pub is : IsFound (opened_memory o) machine maps images layouts o.finding

-- the errors that stacks may have all the same: what is asked for and can't be given, a part of the lock's holder that
-- isn't in memory, and the locals of a kept frame, where they are asked for
abbrev pub IsLeft : Opened → Config → CoreError → Type 0
IsLeft o config NativeUnsupported = ⊤
IsLeft o config SubprocessesUnsupported = ⊤
IsLeft o config (Unreadable addr len) = IsRestFault (opened_memory o) o.finding config (Missing addr len)
IsLeft o config (BadValue frame) = IsRestFault (opened_memory o) o.finding config (IsBadValue frame)
IsLeft o config (LocalsLimit count) = IsRestFault (opened_memory o) o.finding config (ManyLocals count)
IsLeft o config OutOfMemory = ⊤
IsLeft o config _ = ⊥
