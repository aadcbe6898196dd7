-- A small program and its report, worked out by hand: the definition says of it what it is to say.
use Rattle.std.proofs.Common.{◌≡◌, ℕ, true, false, Bool, List, [], ◌∷◌, refl}
use Rattle.std.specs.Prelude.{ℤ, pos, Some, None, codes, option_map}
use Rattle.py_fields.specs.declared.layout.Layout.{Layout}
use Rattle.py_lines.specs.Lines.{line_among}
use Rattle.py_stacks.specs.Asking.{default_config}
use Rattle.py_stacks.specs.Frames.{Call}
use Rattle.py_fields.specs.declared.version.Version.{Version}
use Rattle.memory_builder.specs.Program.{Frame, Program}
use Rattle.image_builder.specs.Shown.{shown_report}

-- a frame of `a.py` without locals, of code of one range
abbrev frame : List ℕ → (first line : ℤ) → (end offset : ℕ) → Frame
frame name first line end offset = record {
  name = name;
  filename = codes "a.py";
  first = first;
  ranges = record { start = 0; end = end; line = Some line } ∷ [];
  offset = offset;
  args = 0;
  locals = [];
}

-- one thread, in which `<module>` called `f`; nobody holds the lock
abbrev program : Program
program = record {
  threads = record {
    id = 32512;
    frames = frame (codes "f") (pos 3) (pos 5) 8 2 ∷ frame (codes "<module>") (pos 1) (pos 1) 4 0 ∷ [];
  } ∷ [];
  owner = None;
}

abbrev call : List ℕ → ℤ → Bool → Call
call name line is_last = record {
  name = name;
  filename = codes "a.py";
  «module» = None;
  short_filename = None;
  line = line;
  locals = None;
  is_entry = true;
  is_shim_entry = is_last;
}

-- signal 6, process 1, `python3`; thread 32512, not marked; `f (a.py:5)`, `<module> (a.py:1)`
worked : (l : Layout) (v : Version) → shown_report default_config l v program ≡ record {
  signal = Some (pos 6);
  process = Some (pos 1, codes "python3");
  version = v;
  traces = record {
    pid = pos 0;
    thread_id = 32512;
    thread_name = None;
    os_thread_id = option_map (λ at. 32512) l.thread.native_id;
    active = true;
    owns_gil = false;
    frames = call (codes "f") (pos 5) false ∷ call (codes "<module>") (pos 1) true ∷ [];
  } ∷ [];
}
unfolding line_among
worked l v = refl
