-- What a thread's locals lead to, over the process of a core. The text is this project's own form.
use Rattle.std.specs.Prelude.{◌≡◌, ℕ, List, [], ◌∷◌, ◌++◌, length, map, flat_map, Option, Some, None, Result, Ok}
use Rattle.std.specs.Prelude.{codes, decimal}
use Rattle.std.specs.List.{concat}
use Rattle.elf64_core.specs.Header.{machine_of}
use Rattle.image_memory.specs.Images.{Pushed}
use Rattle.process_memory.specs.Memory.{Region, byte_at}
use Rattle.py_builtins.specs.declared.error.ObjectError.{ObjectError}
use Rattle.py_fields.specs.declared.layout.Layout.{Layout}
use Rattle.py_stacks.specs.Asking.{default_config}
use Rattle.py_stacks.specs.Threads.{Trace}
use Rattle.py_stacks.specs.declared.config.Config.{Config}
use Rattle.py_stacks.specs.declared.trace.LocalVariable.{LocalVariable}
use Rattle.py_process.specs.Findings.{Finding, FindingIs}
use Rattle.py_process.specs.Reports.{CoreSays, Dumped, StacksSay, memory_in}
use Rattle.py_process.specs.Steps.{Then}
use Rattle.py_process.specs.declared.core_error.CoreError.{CoreError}
use Rattle.object_reach.specs.Objects.{object_at}
use Rattle.object_reach.specs.Reach.{IsRightReach}
use Rattle.object_reach.specs.declared.reached.ReachError.{ReachError}
use Rattle.object_reach.specs.declared.reached.ReachObject.{ReachObject}
use Rattle.core_texts.specs.Parts.{address_text}

-- the process of a core: the pieces of its memory, the layout that covers its version, and its traces
pub record Stacked : Type 0 where
  pub pieces : List Region
  pub layout : Layout
  pub traces : List Trace

-- the stacks of a process, with its memory and layout
abbrev pub IsStacked : Dumped → Finding → List Trace → Result Stacked CoreError → Type 0
IsStacked d f traces result = result ≡ Ok (record { pieces = d.pieces; layout = f.layout; traces = traces })

-- what reading the stacks has to answer, where the process was found
abbrev pub StackedFinding : Dumped → Config → Finding → Result Stacked CoreError → Type 0
StackedFinding d config f = Then (StacksSay (memory_in d) f config) (IsStacked d f)

-- what reading the stacks of a core has to answer
abbrev pub StackedCore : List ℕ → Pushed → List Layout → Config → Dumped → Result Stacked CoreError → Type 0
StackedCore bytes images layouts config d =
    Then (FindingIs (memory_in d) (machine_of bytes) d.maps images layouts) (StackedFinding d config)

-- The process of a core and its images, or the first cause why there is no report of it: the steps are those of a
-- report (`ReportIs`), and its traces the report's
abbrev pub StackedIs : List ℕ → Pushed → List Layout → Config → Result Stacked CoreError → Type 0
StackedIs bytes images layouts config = Then (CoreSays bytes images) (StackedCore bytes images layouts config)

-- what is asked for: locals, once
abbrev pub locals_asked : Config
locals_asked = record default_config { dump_locals = 1 }

-- the addresses of the locals of a frame, and of all frames of a thread, 0 where a local has no value
abbrev pub locals_in : Option (List LocalVariable) → List ℕ
locals_in None = []
locals_in (Some locals) = map (λ l. l.addr) locals

-- the addresses of the locals of a thread's frames, in order
abbrev pub roots_of : Trace → List ℕ
roots_of thread = flat_map (λ f. locals_in f.locals) thread.frames

-- exactly the objects that these lead to over the process's memory, or that they are too many
abbrev pub LeadsTo : Stacked → Trace → Result (List ReachObject) ReachError → Type 0
LeadsTo s thread answer = IsRightReach (object_at s.layout (byte_at s.pieces)) (roots_of thread) answer

-- ---- the text

-- the mark of an object that can't be read whole
abbrev pub broken_text : Option ObjectError → List ℕ
broken_text None = []
broken_text (Some error) = codes " ?"

-- the line of an object that is reached
abbrev pub object_line : ReachObject → List ℕ
object_line o = concat (codes "    " ∷ address_text o.addr ∷ broken_text o.broken ∷ codes "\n" ∷ [])

-- how many objects there are, and the address of each, with a question mark where it is broken
abbrev pub reach_text : List ReachObject → List ℕ
reach_text objects =
    concat (codes "Objects " ∷ decimal (length objects) ∷ codes "\n" ∷ []) ++ concat (map (λ o. object_line o) objects)
