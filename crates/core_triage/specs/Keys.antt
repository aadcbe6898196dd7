-- What a core's stacks are compared by. This project's own rule.
use Rattle.std.specs.Prelude.{ℕ, ℤ, Bool, ◌&&◌, List, map, bytes_eq, encode_utf8_all, Vec}
use Rattle.std.specs.Global.{Global}
use Rattle.std.specs.Ordering.{int_eq}
use Rattle.std.specs.Cmp.Lexicographic.{pointwise}
use Rattle.py_stacks.specs.declared.trace.Frame.{Frame}
use Rattle.py_stacks.specs.declared.trace.StackTrace.{StackTrace}
use Rattle.core_triage.specs.declared.key.FrameKey.{FrameKey}
use Rattle.core_triage.specs.declared.key.StackKey.{StackKey}

-- what is compared of a frame: the function's name, the file's name and the line
pub record Compared : Type 0 where
  pub name : List ℕ
  pub filename : List ℕ
  pub line : ℤ

-- ---- of traces

-- what is compared of a frame: its name, its file and its line
abbrev pub compared_frame : Frame → Compared
compared_frame f = record { name = f.name; filename = f.filename; line = f.line }

-- what is compared of a thread: its frames
abbrev pub compared_thread : StackTrace → List Compared
compared_thread t = map compared_frame t.frames.items

-- for each thread, in order, what is compared of its frames
abbrev pub compared_of : List StackTrace → List (List Compared)
compared_of traces = map compared_thread traces

-- ---- of a key

-- what is compared of a frame, as a key has it
abbrev pub frame_compared : FrameKey → Compared
frame_compared k = record { name = k.name; filename = k.filename; line = k.line }

-- what is compared of a thread, as a key has it
abbrev pub thread_compared : Vec FrameKey Global → List Compared
thread_compared frames = map frame_compared frames.items

-- what is compared of a core, as a key has it
abbrev pub compared_in : StackKey → List (List Compared)
compared_in key = map thread_compared key.threads.items

-- ---- keys that are equal

-- whether two frames have the same function name, file name and line; texts are compared by their bytes in UTF-8
abbrev pub same_frame : FrameKey → FrameKey → Bool
same_frame f g = bytes_eq (encode_utf8_all f.name) (encode_utf8_all g.name)
    && (bytes_eq (encode_utf8_all f.filename) (encode_utf8_all g.filename) && int_eq f.line g.line)

-- whether two keys have as many threads, and these in order as many frames, and these in order are the same
abbrev pub same_key : StackKey → StackKey → Bool
same_key a b = pointwise (λ s t. pointwise same_frame s.items t.items) a.threads.items b.threads.items
