-- The JSON of traces: its tree, and the text of that.
use Rattle.std.specs.Prelude.{ℕ, List, ◌++◌, map, Option, Some, None, Vec, codes, encode_utf8_all}
use Rattle.std.specs.Global.{Global}
use Rattle.json.specs.Layout.{pretty}
use Rattle.json.specs.Tree.{json_tokens}
use Rattle.serde_json.specs.Data.{Data, array, boolean, member, no_members, null, number, object, string, unsigned}
use Rattle.serde_json.specs.Find.{of_integer}
use Rattle.serde_json.specs.View.{items_of}
use Rattle.serde_json.specs.Written.{outline}
use Rattle.py_stacks.specs.declared.trace.Frame.{Frame}
use Rattle.py_stacks.specs.declared.trace.LocalVariable.{LocalVariable}
use Rattle.py_stacks.specs.declared.trace.StackTrace.{StackTrace}

-- a text in UTF-8, or null
abbrev pub text_tree : Option (List ℕ) → Data
text_tree (Some text) = string (encode_utf8_all text)
text_tree None = null

-- JSON of the system's id of a thread; null where it isn't told
abbrev pub id_tree : Option ℕ → Data
id_tree (Some id) = number (unsigned id)
id_tree None = null

-- the keys of an object stand in the order of their bytes
abbrev pub local_tree : LocalVariable → Data
local_tree l = object (
    member (codes "addr") (number (unsigned l.addr)) (
    member (codes "arg") (boolean l.arg) (
    member (codes "name") (string (encode_utf8_all l.name)) (
    member (codes "repr") (text_tree l.repr) no_members))))

-- JSON of a frame's locals
abbrev pub locals_tree : List LocalVariable → Data
locals_tree locals = array (items_of (map (λ l. local_tree l) locals))

-- the locals, where they were asked for
abbrev pub shown_tree : Option (Vec LocalVariable Global) → Data
shown_tree (Some locals) = locals_tree locals.items
shown_tree None = null

-- JSON of a frame
abbrev pub frame_tree : Frame → Data
frame_tree f = object (
    member (codes "filename") (string (encode_utf8_all f.filename)) (
    member (codes "is_entry") (boolean f.is_entry) (
    member (codes "is_shim_entry") (boolean f.is_shim_entry) (
    member (codes "line") (number (of_integer f.line)) (
    member (codes "locals") (shown_tree f.locals) (
    member (codes "module") (text_tree f.module) (
    member (codes "name") (string (encode_utf8_all f.name)) (
    member (codes "short_filename") (text_tree f.short_filename) no_members))))))))

-- JSON of frames, in order
abbrev pub frames_tree : List Frame → Data
frames_tree frames = array (items_of (map (λ f. frame_tree f) frames))

-- a core tells nothing of the process beside its threads
abbrev pub trace_tree : StackTrace → Data
trace_tree t = object (
    member (codes "active") (boolean t.active) (
    member (codes "frames") (frames_tree t.frames.items) (
    member (codes "os_thread_id") (id_tree t.os_thread_id) (
    member (codes "owns_gil") (boolean t.owns_gil) (
    member (codes "pid") (number (of_integer t.pid)) (
    member (codes "process_info") null (
    member (codes "thread_id") (number (unsigned t.thread_id)) (
    member (codes "thread_name") (text_tree t.thread_name) no_members))))))))

-- an object for each thread, in order
abbrev pub report_tree : List StackTrace → Data
report_tree traces = array (items_of (map (λ t. trace_tree t) traces))

-- the text of a tree: each item and member on a line of its own, two spaces deeper for each bracket
abbrev pub pretty_text : Data → List ℕ
pretty_text d = pretty (json_tokens (outline d))

-- the JSON of stacks
abbrev pub report_json : List StackTrace → List ℕ
report_json traces = pretty_text (report_tree traces) ++ codes "\n"
