-- The texts of traces, of a walk and of a report.
use Rattle.std.specs.Prelude.{ℕ, ℤ, pos, negsuc, ◌++◌, ◌==◌, not, Bool, true, false, if◌then◌else◌, List, [], ◌∷◌, map}
use Rattle.std.specs.Prelude.{reverse, Option, Some, None, unwrap_or, Vec, codes, decimal, encode_utf8_all}
use Rattle.std.specs.Fmt.{signed_decimal}
use Rattle.std.specs.Global.{Global}
use Rattle.std.specs.List.{concat, list_any}
use Rattle.py_fields.specs.Version.{version_text}
use Rattle.py_fields.specs.declared.version.Version.{Version}
use Rattle.py_stacks.specs.Shown.{id_text, status_text}
use Rattle.py_stacks.specs.declared.trace.Frame.{Frame}
use Rattle.py_stacks.specs.declared.trace.LocalVariable.{LocalVariable}
use Rattle.py_stacks.specs.declared.trace.StackTrace.{StackTrace}

-- the mark of the thread that held the interpreter lock
abbrev pub gil_text : Bool → List ℕ
gil_text true = codes " (gil)"
gil_text false = []

-- a thread's state, where activity is asked for, else whether it held the interpreter lock
abbrev pub mark_text : Bool → StackTrace → List ℕ
mark_text true t = codes " (" ++ (status_text t.active t.owns_gil ++ codes ")")
mark_text false t = gil_text t.owns_gil

-- a thread's name, where it has one
abbrev pub name_text : Option (List ℕ) → List ℕ
name_text (Some name) = codes ": \"" ++ (encode_utf8_all name ++ codes "\"")
name_text None = []

-- a line's number, where it is known
abbrev pub line_text : ℤ → List ℕ
line_text (pos n) = if n == 0 then [] else codes ":" ++ decimal n
line_text (negsuc n) = codes ":" ++ signed_decimal (negsuc n)

-- the value of a local, or a question mark where it is not shown
abbrev pub repr_text : Option (List ℕ) → List ℕ
repr_text (Some repr) = encode_utf8_all repr
repr_text None = codes "?"

-- the line of a local
abbrev pub local_text : LocalVariable → List ℕ
local_text l = codes "            " ++ (encode_utf8_all l.name ++ (codes ": " ++ (repr_text l.repr ++ codes "\n")))

-- the heading of an argument, or of another local, unless one stands before
abbrev pub heading_of : Bool → Bool → Bool → List ℕ
heading_of true arguments others = if arguments then [] else codes "        Arguments:\n"
heading_of false arguments others = if others then [] else codes "        Locals:\n"

-- the heading after these locals: arguments and others have one each, before the first of them
abbrev pub heading_text : List LocalVariable → Bool → List ℕ
heading_text before arg = heading_of arg (list_any (λ l. l.arg) before) (list_any (λ l. not l.arg) before)

-- the lines of locals that stand after these
abbrev pub locals_after : List LocalVariable → List LocalVariable → List ℕ
locals_after before [] = []
locals_after before (l ∷ rest) =
    heading_text before l.arg ++ (local_text l ++ locals_after (before ++ l ∷ []) rest)

-- the lines of a frame's locals
abbrev pub locals_text : List LocalVariable → List ℕ
locals_text locals = locals_after [] locals

-- the lines of a frame's locals, where they were asked for
abbrev pub shown_locals : Option (Vec LocalVariable Global) → List ℕ
shown_locals None = []
shown_locals (Some locals) = locals_text locals.items

-- a frame's function, and its file by the shorter name where there is one
abbrev pub frame_line : Frame → List ℕ
frame_line f = codes "    " ++ (encode_utf8_all f.name ++ (codes " ("
    ++ (encode_utf8_all (unwrap_or f.short_filename f.filename) ++ (line_text f.line ++ codes ")\n"))))

-- the line of a frame, and those of its locals
abbrev pub frame_text : Frame → List ℕ
frame_text f = frame_line f ++ shown_locals f.locals

-- the lines of frames, each with its locals
abbrev pub frames_text : List Frame → List ℕ
frames_text frames = concat (map (λ f. frame_text f) frames)

-- the line of a thread, with its activity or without
abbrev pub thread_line : Bool → StackTrace → List ℕ
thread_line activity t = codes "Thread " ++ (id_text t.os_thread_id t.thread_id ++ (mark_text activity t
    ++ (name_text t.thread_name ++ codes "\n")))

-- the line of a thread, and those of its frames
abbrev pub trace_text : Bool → StackTrace → List ℕ
trace_text activity t = thread_line activity t ++ frames_text t.frames.items

-- the version, an empty line, and the threads from the last to the first
abbrev pub walk_text : Version → List StackTrace → List ℕ
walk_text version traces = codes "Python v" ++ (version_text version ++ (codes "\n\n"
    ++ concat (map (λ t. trace_text false t) (reverse traces))))

-- the signal that a core tells, beside the core's name, where it tells one
abbrev pub signal_text : List ℕ → Option ℤ → List ℕ
signal_text core None = []
signal_text core (Some signal) = codes "Signal " ++ (signed_decimal signal ++ (codes ": " ++ (core ++ codes "\n")))

-- the process that a core tells, by its id and arguments, where it tells one
abbrev pub process_text : Option (ℤ × List ℕ) → List ℕ
process_text None = []
process_text (Some process) = codes "Process " ++ (signed_decimal process.0 ++ (codes ": "
    ++ (encode_utf8_all process.1 ++ codes "\n")))

-- the signal, the process, and what a walk prints
abbrev pub report_text : List ℕ → Option ℤ → Option (ℤ × List ℕ) → Version → List StackTrace → List ℕ
report_text core signal process version traces =
    signal_text core signal ++ (process_text process ++ walk_text version traces)
