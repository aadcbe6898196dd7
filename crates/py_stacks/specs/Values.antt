-- The values of locals as text. How wide they are shown, and what stands for one that can't be, is this project's
-- own; the text of a value is py_objects's.
use Rattle.std.specs.Prelude.{ℕ, ◌*◌, ◌-◌, ◌^◌, min, Option, Some, None, List, map, option_map, codes, IsSome, ◌≡◌}
use Rattle.std.specs.Prelude.{Result, Ok, Err}
use Rattle.std.specs.List.{sum_by}
use Rattle.std.specs.Str.{chars}
use Rattle.process_memory.specs.Memory.{Memory, Found}
use Rattle.py_fields.specs.declared.layout.Layout.{Layout}
use Rattle.py_builtins.specs.declared.error.ObjectError.{ObjectError}
use Rattle.py_builtins.specs.ObjectError.{object_fault}
use Rattle.py_objects.specs.Nodes.{values_in}
use Rattle.py_objects.specs.Shows.{show_at}
use Rattle.py_stacks.specs.declared.error.StackError.{StackError}
use Rattle.py_stacks.specs.declared.error.StackError.TheVariants.{OutOfMemory}
use Rattle.py_stacks.specs.declared.trace.LocalVariable.{LocalVariable}
use Rattle.py_stacks.specs.Frames.{Call}
use Rattle.py_stacks.specs.Threads.{Trace}

-- how wide a value is shown: 128 for each level that is asked for, at most 2^63 - 1
abbrev pub value_width : ℕ → ℕ
value_width levels = min (128 * levels) (2 ^ 63 - 1)

-- what the value at an address shows as within a width, its text or its fault, and how many visits it takes: it has
-- all 256 levels, and no visit is counted before it
unfoldable pub local_value_at : Layout → Memory → ℕ → ℕ → Found (List ℕ) × ℕ
local_value_at l m width a = show_at (values_in l m) 256 width a 0

-- the characters of a text, or a question mark where there is none
abbrev pub text_or_mark : Found (List ℕ) → List ℕ
text_or_mark (Ok text) = chars text
text_or_mark (Err f) = codes "?"

-- the text of the value at an address
unfoldable pub value_text : Layout → Memory → ℕ → ℕ → List ℕ
value_text l m width a = text_or_mark (local_value_at l m width a).0

-- how many visits the value at an address takes
unfoldable pub value_visits : Layout → Memory → ℕ → ℕ → ℕ
value_visits l m width a = (local_value_at l m width a).1

-- ---- in traces

-- a local with the text that its address has
abbrev pub with_value : (ℕ → List ℕ) → LocalVariable → LocalVariable
with_value texts v = record v { repr = Some (texts v.addr) }

-- a frame with those of its locals, where it has some
abbrev pub with_values : (ℕ → List ℕ) → Call → Call
with_values texts c = record c { locals = option_map (map (with_value texts)) c.locals }

-- a trace with those of the locals of its frames
abbrev pub by_value : (ℕ → List ℕ) → Trace → Trace
by_value texts t = record t { frames = map (with_values texts) t.frames }

-- ---- how many visits, by those that each address takes

-- the visits that the values of some locals take
abbrev pub locals_visits : (ℕ → ℕ) → List LocalVariable → ℕ
locals_visits visits vs = sum_by (λ v. visits v.addr) vs

-- the same, where a frame has locals
abbrev pub asked_visits : (ℕ → ℕ) → Option (List LocalVariable) → ℕ
asked_visits visits None = 0
asked_visits visits (Some vs) = locals_visits visits vs

-- the visits that the locals of a frame take
abbrev pub call_visits : (ℕ → ℕ) → Call → ℕ
call_visits visits c = asked_visits visits c.locals

-- the visits that the locals of a thread's frames take
abbrev pub trace_visits : (ℕ → ℕ) → Trace → ℕ
trace_visits visits t = sum_by (call_visits visits) t.frames

-- the visits that the locals of all traces take
unfoldable pub traces_visits : (ℕ → ℕ) → List Trace → ℕ
traces_visits visits ts = sum_by (trace_visits visits) ts

-- ---- results

-- a text is a value, or out of memory is the error
abbrev pub IsOrLost : List ℕ → Result (List ℕ) StackError → Type 0
IsOrLost value (Ok text) = text ≡ value
IsOrLost value (Err e) = e ≡ OutOfMemory

-- a question mark, for an error other than out of memory
abbrev pub StandsFor : ObjectError → Result (List ℕ) StackError → Type 0
StandsFor e (Ok mark) = (mark ≡ codes "?") × IsSome (object_fault e)
StandsFor e (Err f) = f ≡ OutOfMemory

-- what a shown value gives as a text: itself, or a question mark
abbrev pub MarkedAs : Result (List ℕ) ObjectError → Result (List ℕ) StackError → Type 0
MarkedAs (Ok text) result = result ≡ Ok text
MarkedAs (Err e) result = StandsFor e result
