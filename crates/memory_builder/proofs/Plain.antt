-- What a program shows before the values of its locals are read and the lock's holder is marked; and what its frames
-- have to be for that.
use Rattle.std.specs.Prelude.{◌≡◌, ℕ, ◌+◌, ◌%◌, ◌<◌, ◌≤◌, ◌^◌, nat_lt, Bool, true, false, Option, Some, None}
use Rattle.std.specs.Prelude.{option_map, map, List, [], ◌∷◌, length, pos}
use Rattle.std.specs.List.{AllByRecursion}
use Rattle.py_fields.specs.declared.layout.Layout.{Layout}
use Rattle.py_lines.specs.Lines.{line_of, ranges_of}
use Rattle.py_stacks.specs.declared.asked.Asked.{Asked}
use Rattle.py_stacks.specs.declared.trace.LocalVariable.{LocalVariable}
use Rattle.py_stacks.specs.Detail.{detail_with}
use Rattle.py_stacks.specs.Lines.{family_of}
use Rattle.py_stacks.specs.Frames.{Call, call_named, is_hidden, shown, with_detail}
use Rattle.py_stacks.specs.Stacks.{by_holder}
use Rattle.py_stacks.specs.Threads.{Trace}
use Rattle.memory_builder.specs.Chains.{values_at}
use Rattle.memory_builder.specs.Frames.{coded_lines, first_number, values_place}
use Rattle.memory_builder.specs.Laid.{first_place}
use Rattle.memory_builder.specs.Program.{Frame, Local, Program, Thread}
use Rattle.memory_builder.specs.Sizes.{frame_size, local_size, thread_size}
use Rattle.memory_builder.specs.Threads.{frames_place}
use Rattle.memory_builder.specs.Told.{line_told}
use Rattle.memory_builder.specs.Validity.{IsBriefText, IsValidHeld}

-- ---- what a frame has to be

pub record IsFrame (l : Layout) (f : Frame) : Type 0 where
  pub name : IsBriefText f.name
  pub file : IsBriefText f.filename
  pub shown : is_hidden f.filename ≡ false
  pub first : first_number f < 2 ^ 31
  pub first_is : pos (first_number f) ≡ f.first
  pub offset : f.offset < 2 ^ 31
  pub even : f.offset % 2 ≡ 0
  pub table : length (coded_lines l f) < 65536
  pub line : line_of (ranges_of (family_of l.lines) f.first (coded_lines l f)) (pos f.offset)
      ≡ line_of f.ranges (pos f.offset)
  pub args : f.args ≤ length f.locals
  pub locals : length f.locals ≤ 65535
  pub names : AllByRecursion (λ (v : Local). IsBriefText v.name) f.locals
  pub values : AllByRecursion (λ (v : Local). IsValidHeld v.value) f.locals

pub record IsThread (l : Layout) (t : Thread) : Type 0 where
  pub id : t.id < 2 ^ 64
  pub few : length t.frames ≤ 4096
  pub frames : AllByRecursion (IsFrame l) t.frames

-- ---- what they show

-- the locals from an index on, whose values stand from an address on
abbrev pub locals_for : Layout → ℕ → ℕ → ℕ → List Local → List LocalVariable
locals_for l args index a [] = []
locals_for l args index a (v ∷ vs) =
    record { name = v.name; addr = a; arg = nat_lt index args; repr = None }
    ∷ locals_for l args (index + 1) (a + local_size l v) vs

abbrev pub asked_for : Bool → Layout → ℕ → Frame → Option (List LocalVariable)
asked_for false l a f = None
asked_for true l a f = Some (locals_for l f.args 0 (values_place l a f) f.locals)

-- the call of a frame that stands at an address
abbrev pub call_for : Asked → Layout → ℕ → Frame → Call
call_for q l a f = with_detail (call_named f.filename f.name true)
    (detail_with (line_told q.lineno f) (asked_for q.locals l a f))

-- those of the frames that are laid from an address on, each marked as the last one is
abbrev pub calls_for : Asked → Layout → ℕ → List Frame → List Call
calls_for q l a fs = shown (values_at (frame_size l) (λ at f. Some (call_for q l at f)) a fs)

-- the trace of a thread that stands at an address; that it holds the lock isn't said
abbrev pub trace_for : Asked → Layout → ℕ → Thread → Trace
trace_for q l a t = record {
  pid = pos 0;
  thread_id = t.id;
  thread_name = None;
  os_thread_id = option_map (λ at. t.id) l.thread.native_id;
  active = true;
  owns_gil = false;
  frames = calls_for q l (frames_place l a) t.frames;
}

abbrev pub traces_for : Asked → Layout → ℕ → List Thread → List Trace
traces_for q l a ts = values_at (thread_size l) (trace_for q l) a ts

-- the traces of a program that stands at an address
abbrev pub stacks_for : Asked → Layout → ℕ → (holder_id : ℕ) → Program → List Trace
stacks_for q l a holder_id p = map (by_holder holder_id) (traces_for q l (first_place l a) p.threads)
