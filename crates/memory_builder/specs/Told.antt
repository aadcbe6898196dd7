-- What the threads of a program show where its objects stand in memory. This knows of no memory: lines are those of
-- the frames' ranges, and values are shown by the rule of values over the program's own.
use Rattle.std.specs.Prelude.{ℕ, ◌+◌, nat_eq, nat_lt, ℤ, pos, Bool, true, false, Option, Some, None, option_map, List}
use Rattle.std.specs.Prelude.{[], ◌∷◌, length, slice_get, Ok, Err, codes, encode_utf8_all}
use Rattle.process_memory.specs.Memory.{Found}
use Rattle.process_memory.specs.Memory.Fault.{BadType}
use Rattle.py_lines.specs.Lines.{line_of}
use Rattle.py_objects.specs.ShownTexts.{number_text}
use Rattle.py_objects.specs.Shows.{Child, Node, Source, show_at}
use Rattle.py_objects.specs.Shows.Brackets.{Square}
use Rattle.py_objects.specs.Shows.Node.{Whole, Quoted, Many}
use Rattle.py_objects.specs.Shows.Child.{Item as ItemChild}
use Rattle.py_fields.specs.declared.layout.Layout.{Layout}
use Rattle.py_stacks.specs.declared.asked.Asked.{Asked}
use Rattle.py_stacks.specs.declared.asked.LineNo.{LineNo}
use Rattle.py_stacks.specs.declared.asked.LineNo.TheVariants.{NoLine, First, LastInstruction}
use Rattle.py_stacks.specs.declared.config.Config.{Config}
use Rattle.py_stacks.specs.declared.trace.LocalVariable.{LocalVariable}
use Rattle.py_stacks.specs.Asking.{asked_of}
use Rattle.py_stacks.specs.Detail.{detail_with}
use Rattle.py_stacks.specs.Frames.{Call, call_named, shown, with_detail}
use Rattle.py_stacks.specs.Threads.{Trace}
use Rattle.py_stacks.specs.Values.{text_or_mark, value_width}
use Rattle.memory_builder.specs.Chains.{values_at}
use Rattle.memory_builder.specs.Frames.{values_place}
use Rattle.memory_builder.specs.Laid.{first_place}
use Rattle.memory_builder.specs.Program.{Item, Held, Local, Frame, Thread, Program}
use Rattle.memory_builder.specs.Program.Item.{Number, Words}
use Rattle.memory_builder.specs.Program.Held.{Single, Items}
use Rattle.memory_builder.specs.Sizes.{frame_size, local_size, thread_size}
use Rattle.memory_builder.specs.Threads.{frames_place}

-- ---- values

-- how a single value is shown: a number in decimal, or a quoted text
abbrev pub item_node : Item → Node (List Item)
item_node (Number z) = Whole (number_text (codes "int") z)
item_node (Words cs) = Quoted (encode_utf8_all cs)

-- how a value is shown: a single one, or a list in square brackets
abbrev pub told_node : Held → Found (Node (List Item))
told_node (Single x) = Ok (item_node x)
told_node (Items xs) = Ok (Many Square (length xs) xs)

-- an item of a list as a value to show; a fault where there is none
abbrev pub child_by : Option Item → Found (Child Held)
child_by None = Err BadType
child_by (Some x) = Ok (ItemChild (Single x))

-- the item of an index, counted from 0
abbrev pub told_child : List Item → ℕ → Found (Child Held)
told_child xs k = child_by (slice_get xs k)

-- the values of a program
abbrev pub told_values : Source Held (List Item)
told_values = record { node = told_node; child = told_child }

-- the text of a value within a width
abbrev pub told_text : ℕ → Held → List ℕ
told_text width v = text_or_mark (show_at told_values 256 width v 0).0

-- ---- frames

-- the line of a frame: that of the range that holds its offset, or the first one of its code
abbrev pub line_told : LineNo → Frame → ℤ
line_told NoLine f = pos 0
line_told First f = f.first
line_told LastInstruction f = line_of f.ranges (pos f.offset)

-- locals from an index on, whose values stand from an address on
abbrev pub locals_told : (width : ℕ) → Layout → (args index a : ℕ) → List Local → List LocalVariable
locals_told width l args index a [] = []
locals_told width l args index a (v ∷ vs) =
    record { name = v.name; addr = a; arg = nat_lt index args; repr = Some (told_text width v.value) }
    ∷ locals_told width l args (index + 1) (a + local_size l v) vs

-- the locals of a frame that stands at an address, where they are asked for
abbrev pub asked_told : Bool → (width : ℕ) → Layout → ℕ → Frame → Option (List LocalVariable)
asked_told false width l a f = None
asked_told true width l a f = Some (locals_told width l f.args 0 (values_place l a f) f.locals)

-- the call of a frame that stands at an address
abbrev pub call_told : Asked → (width : ℕ) → Layout → ℕ → Frame → Call
call_told q width l a f = with_detail (call_named f.filename f.name true)
    (detail_with (line_told q.lineno f) (asked_told q.locals width l a f))

-- the calls of a thread whose newest frame stands at an address
abbrev pub calls_told : Asked → (width : ℕ) → Layout → ℕ → List Frame → List Call
calls_told q width l a fs = shown (values_at (frame_size l) (λ at f. Some (call_told q width l at f)) a fs)

-- ---- threads

-- the trace of a thread that stands at an address, where the lock's holder has this id
abbrev pub trace_told : Asked → (width holder_id : ℕ) → Layout → ℕ → Thread → Trace
trace_told q width holder_id l a t = record {
  pid = pos 0;
  thread_id = t.id;
  thread_name = None;
  os_thread_id = option_map (λ at. t.id) l.thread.native_id;
  active = true;
  owns_gil = nat_eq t.id holder_id;
  frames = calls_told q width l (frames_place l a) t.frames;
}

-- what a program that stands at an address shows, as a `Config` asks for it. Of the layout it has the addresses of
-- locals alone, and whether a thread has the system's id
abbrev pub program_told : Config → Layout → ℕ → (holder_id : ℕ) → Program → List Trace
program_told c l a holder_id p = values_at (thread_size l)
    (trace_told (asked_of c) (value_width c.dump_locals) holder_id l) (first_place l a) p.threads
