-- A program for each seed: 256 threads whose frames, names, lines and locals differ by their places. The numbers are
-- this project's own.
use Rattle.std.specs.Prelude.{ℕ, zero, suc, ◌+◌, ◌*◌, ◌%◌, List, [], ◌∷◌, ◌++◌, Some, None, codes, pos}
use Rattle.std.specs.Fmt.{decimal}
use Rattle.py_lines.specs.declared.lines.LineRange.{LineRange}
use Rattle.memory_builder.specs.Program.{Local, Frame, Thread, Program}
use Rattle.memory_builder.specs.Program.Item.{Number, Words}
use Rattle.memory_builder.specs.Program.Held.{Single, Items}

-- what stands at 0, 1 and so on, below a number
unfoldable pub each : {A : Type 0} → (ℕ → A) → ℕ → List A
each f zero = []
each f (suc n) = each f n ++ f n ∷ []

-- the number in the name of a thread's function
abbrev pub name_number : (seed thread frame : ℕ) → ℕ
name_number seed thread frame = (seed % 1000 + 31 * thread + frame) % 1000

-- three ranges; the line of the last differs from thread to thread
abbrev pub ranges_in : (thread frame : ℕ) → List LineRange
ranges_in thread frame =
    record { start = 0; end = 2; line = Some (pos (1 + frame)) }
    ∷ record { start = 2; end = 6; line = Some (pos (2 + frame)) }
    ∷ record { start = 6; end = 8; line = Some (pos (3 + frame + thread % 7)) } ∷ []

-- a number, and a list of a text and that number
abbrev pub locals_in : ℕ → List Local
locals_in n =
    record { name = codes "x"; value = Single (Number (pos n)) }
    ∷ record { name = codes "y"; value = Items (Words (codes "s") ∷ Number (pos n) ∷ []) } ∷ []

-- the frame at a place of a thread, the newest first
abbrev pub frame_of : (seed thread frame : ℕ) → Frame
frame_of seed thread frame = record {
  name = codes "f" ++ decimal (name_number seed thread frame);
  filename = codes "m" ++ (decimal frame ++ codes ".py");
  first = pos (1 + frame);
  ranges = ranges_in thread frame;
  offset = 4;
  args = 1;
  locals = locals_in (7 * thread + frame);
}

-- 1 to 16 frames
abbrev pub frame_count : (seed thread : ℕ) → ℕ
frame_count seed thread = 1 + (seed % 16 + thread) % 16

-- the thread of an index: its id, and 1 to 16 frames
abbrev pub thread_of : (seed thread : ℕ) → Thread
thread_of seed thread =
    record { id = 1000 + 16 * thread; frames = each (frame_of seed thread) (frame_count seed thread) }

-- the program of a seed; no thread holds the lock
unfoldable pub generated : ℕ → Program
generated seed = record { threads = each (thread_of seed) 256; owner = None }
