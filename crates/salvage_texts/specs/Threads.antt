-- The lines of threads.
use Rattle.std.specs.Prelude.{ℕ, ◌+◌, ◌++◌, Bool, if◌then◌else◌, List, [], map, drop, take, reverse, position, Option}
use Rattle.std.specs.Prelude.{Some, None, codes, true}
use Rattle.std.specs.List.{concat}
use Rattle.py_stacks.specs.Shown.{id_text}
use Rattle.py_fronts.specs.declared.frame_front.FramesFront.{FramesFront}
use Rattle.py_fronts.specs.declared.thread_front.ThreadFront.{ThreadFront}
use Rattle.py_fronts.specs.declared.crash.Crash.{Crash}
use Rattle.py_fronts.specs.declared.lock.LockState.{LockState}
use Rattle.thread_names.specs.Lookup.{name_of}
use Rattle.thread_names.specs.declared.names.ThreadName.{ThreadName}
use Rattle.salvage_texts.specs.Escape.{escaped}
use Rattle.salvage_texts.specs.Ends.{frames_end_text, more_text}
use Rattle.py_fronts.specs.Crashes.{is_crashed}
use Rattle.py_fronts.specs.Locks.{holds_lock}
use Rattle.salvage_texts.specs.Standings.{standings_text}
use Rattle.repr_json.specs.declared.shown.ShownValues.{ShownValues}

-- a mark on a thread's line, where it has it
abbrev pub mark_text : Bool → List ℕ → List ℕ
mark_text is_marked mark = if is_marked then mark else []

-- the name that is told of a thread, where one is, in which what could end it or the line is escaped
abbrev pub name_text : Option (List ℕ) → List ℕ
name_text None = []
name_text (Some name) = codes ": \"" ++ (escaped true name ++ codes "\"")

-- a thread's id, whether it holds the lock, whether it got the signal, and its name
abbrev pub thread_line : LockState → Option Crash → List ThreadName → ThreadFront → List ℕ
thread_line lock crash names t = codes "Thread " ++ (id_text t.os_thread_id t.thread_id
    ++ (mark_text (holds_lock lock t) (codes " (gil)") ++ (mark_text (is_crashed crash t) (codes " (crashed)")
    ++ (name_text (name_of names t.thread_id) ++ codes "\n"))))

-- the first frames, how many aren't shown, the last ones, and how they end
abbrev pub frames_text : ShownValues → FramesFront → List ℕ
frames_text values f = standings_text values f.first.items ++ (more_text f.between
    ++ (standings_text values f.last.items ++ frames_end_text f.end f.met))

-- the lines of a thread: its own, and those of its frames
abbrev pub thread_text : ShownValues → LockState → Option Crash → List ThreadName → ThreadFront → List ℕ
thread_text values lock crash names t = thread_line lock crash names t ++ frames_text values t.frames

-- threads from the last to the first
abbrev pub reversed_text : ShownValues → LockState → Option Crash → List ThreadName → List ThreadFront → List ℕ
reversed_text values lock crash names threads =
    concat (map (λ t. thread_text values lock crash names t) (reverse threads))

-- the one at a place first, and then the others
abbrev pub placed_text : ShownValues → LockState → Option Crash → List ThreadName → List ThreadFront → Option ℕ
    → List ℕ
placed_text values lock crash names threads None = reversed_text values lock crash names threads
placed_text values lock crash names threads (Some i) = reversed_text values lock crash names (take 1 (drop i threads))
    ++ (reversed_text values lock crash names (drop (i + 1) threads)
    ++ reversed_text values lock crash names (take i threads))

-- the first one that got the signal, where there is one, and then the others from the last to the first
abbrev pub threads_text : ShownValues → LockState → Option Crash → List ThreadName → List ThreadFront → List ℕ
threads_text values lock crash names threads =
    placed_text values lock crash names threads (position (λ thread. is_crashed crash thread) threads)
