-- A core of the footprint of a process's stacks alone, and what is read of it.
use Rattle.std.specs.Prelude.{◌≡◌, ◌≢◌, ℕ, List, Result, Ok, Err, ⊤}
use Rattle.elf64_core.specs.Outcomes.{IsUnless}
use Rattle.process_memory.specs.Memory.{Memory}
use Rattle.process_memory.specs.declared.memory.Span.{Span}
use Rattle.py_fields.specs.declared.layout.Layout.{Layout}
use Rattle.py_stacks.specs.declared.config.Config.{Config}
use Rattle.py_stacks.specs.Threads.{Trace}
use Rattle.py_process.specs.Findings.{Finding, IsChosen}
use Rattle.py_process.specs.Reports.{HasStacks, StacksSay}
use Rattle.py_process.specs.declared.core_error.CoreError.{CoreError}
use Rattle.py_process.specs.declared.core_error.CoreError.TheVariants as core
use Rattle.core_slim.specs.Slim.{IsSlimmed, Keeps}
use Rattle.core_slim.specs.declared.error.SlimError.{SlimError}
use Rattle.core_slim.specs.declared.error.SlimError.TheVariants as slim
use Rattle.core_stacks.specs.Footprints.{IsFootprint}
use Rattle.core_stacks.specs.Opened.{IsOpenedAt, Opened, opened_memory}
use Rattle.core_stacks.specs.declared.slimmed_error.SlimmedError.{SlimmedError}
use Rattle.core_stacks.specs.declared.slimmed_error.SlimmedError.TheVariants.{Core, TooManyPieces, OutOfMemory}

-- which refusal an error is
abbrev pub refusal_of_core : CoreError → SlimmedError
refusal_of_core core.OutOfMemory = OutOfMemory
refusal_of_core error = Core error

-- the refusal that an error of writing a slim core stands for
abbrev pub refusal_of_slim : SlimError → SlimmedError
refusal_of_slim (slim.TooManyPieces count) = TooManyPieces count
refusal_of_slim slim.OutOfMemory = OutOfMemory

-- a slim core of ranges that are a footprint of the stacks, or that they have too many pieces
pub record IsSlimmedFor (o : Opened) (config : Config) (result : Result (List ℕ) SlimError) : Type 0 where
  pub traces : List Trace
  pub ranges : List Span
  pub footprint : IsFootprint (opened_memory o) o.finding config traces ranges
  pub is : IsSlimmed o.core (opened_memory o) ranges result

-- that, or the first cause why there are no stacks; out of memory may always be answered
abbrev pub SlimmedSays : Opened → Config → Result (List ℕ) SlimmedError → Type 0
SlimmedSays o config (Ok bytes) = IsSlimmedFor o config (Ok bytes)
SlimmedSays o config (Err (Core error)) =
    (error ≢ core.OutOfMemory) × StacksSay (opened_memory o) o.finding config (Err error)
SlimmedSays o config (Err (TooManyPieces count)) = IsSlimmedFor o config (Err (slim.TooManyPieces count))
SlimmedSays o config (Err OutOfMemory) = ⊤

-- the first cause why there are no stacks is the answer, out of memory aside
abbrev pub TellsCause : Opened → Config → Result (List ℕ) SlimmedError → Type 0
TellsCause o config result = (error : CoreError) → error ≢ core.OutOfMemory
    → StacksSay (opened_memory o) o.finding config (Err error) → IsUnless OutOfMemory (Err (Core error)) result

-- a layout that is the one of a list that covers its version
abbrev pub IsSoleLayout : List Layout → Finding → Type 0
IsSoleLayout layouts f = (other : Layout) → IsChosen layouts f.version other → other ≡ f.layout

-- the stacks over a memory, or out of memory
abbrev pub HasStacksOrNone : Memory → Finding → Config → Result (List Trace) CoreError → Type 0
HasStacksOrNone m f config (Ok traces) = HasStacks m f config traces
HasStacksOrNone m f config (Err core.OutOfMemory) = ⊤
HasStacksOrNone m f config (Err _) = ⊥

-- a core that is opened again by the same version, addresses and layout gives the stacks over the whole memory
abbrev pub KeepsStacks : Opened → Config → List ℕ → Type 0
KeepsStacks o config bytes = (layouts : List Layout) (again : Opened) → IsSoleLayout layouts o.finding
    → IsOpenedAt bytes layouts o.finding.version o.finding.addresses again
    → (answer : Result (List Trace) CoreError) → StacksSay (opened_memory again) again.finding config answer
    → HasStacksOrNone (opened_memory o) o.finding config answer

-- it is a core of the same machine, signal and process, with a part of the memory, over which the stacks are the same
pub record IsSlimOf (o : Opened) (config : Config) (bytes : List ℕ) : Type 0 where
  pub ranges : List Span
  pub keeps : Keeps o.core (opened_memory o) ranges bytes
  pub stacks : KeepsStacks o config bytes
