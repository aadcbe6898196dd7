-- The entries of tracebacks (`PyTracebackObject`, Include/cpython/traceback.h), and what their frames show: they are
-- frames as those of threads are, so that their texts are told by the same rules (`py_stacks`). The line is the one
-- that the entry has (`tb_lineno`); where that is below 0 it is the one of its instruction (`tb_lasti`, in bytes in
-- each version) by the line table of its code (`tb_lineno_get`, Python/traceback.c).
use Rattle.std.specs.Prelude.{◌≡◌, ℕ, ◌+◌, Bool, Option, Some, None, List, Result, Ok, Err, ℤ, pos, int_lt}
use Rattle.std.specs.Prelude.{if◌then◌else◌}
use Rattle.std.specs.Int.{w32, cast_signed}
use Rattle.elf64_core.specs.Fields.{u32_in, u64_in}
use Rattle.process_memory.specs.Memory.{Found, Memory, ◌>>=◌, record_at, word_at}
use Rattle.py_fields.specs.declared.layout.Layout.{Layout}
use Rattle.py_lines.specs.Lines.{line_of, ranges_of}
use Rattle.py_stacks.specs.Frames.{name_at, records_at}
use Rattle.py_stacks.specs.Lines.{family_of, first_line, table_at}
use Rattle.py_stacks.specs.Member.{MemberAt}
use Rattle.py_stacks.specs.StackError.{stack_fault}
use Rattle.py_stacks.specs.declared.error.StackError.{StackError}
use Rattle.thread_exceptions.specs.declared.error.ExceptionsError.{ExceptionsError}
use Rattle.py_exceptions.specs.declared.entry.CalledFrame.{CalledFrame}
use Rattle.py_exceptions.specs.declared.entry.Entry.{Entry}
use Rattle.py_exceptions.specs.declared.entry.Point.{Point}
use Rattle.py_exceptions.specs.declared.entry.TracebackPlaces.{TracebackPlaces}
use Rattle.py_exceptions.specs.Faults.{NoneBy, found_or_none}

-- what the record of an entry says
abbrev pub point_of : TracebackPlaces → List ℕ → Point
point_of p bytes = record {
  object = u64_in bytes p.frame;
  lasti = cast_signed w32 (u32_in bytes p.lasti);
  line = cast_signed w32 (u32_in bytes p.line);
}

-- what the record of the entry at an address says
unfoldable pub point_at : TracebackPlaces → Memory → ℕ → Found Point
point_at p m a = do
  bytes ← record_at m a p.size
  Ok (point_of p bytes)

-- the address of the frame that an object is, or names
unfoldable pub place_at : Option ℕ → Memory → ℕ → Found ℕ
place_at None m object = Ok object
place_at (Some at) m object = word_at m (object + at)

-- the line of an entry's instruction by a line table, 0 without one
abbrev pub line_in : Layout → MemberAt → Option (List ℕ) → Point → ℤ
line_in l r None point = pos 0
line_in l r (Some table) point = line_of (ranges_of (family_of l.lines) (first_line l r) table) point.lasti

-- the line of an entry's instruction
unfoldable pub lazy_line_at : Layout → Memory → MemberAt → Point → Found ℤ
lazy_line_at l m r point = do
  table ← table_at l m (u64_in r.code l.code.table)
  Ok (line_in l r table point)

-- the line of an entry is to be told by its instruction
abbrev pub is_lazy : Point → Bool
is_lazy point = int_lt point.line (pos 0)

-- the line of an entry
unfoldable pub line_found_at : Layout → Memory → MemberAt → Point → Found ℤ
line_found_at l m r point = if is_lazy point then lazy_line_at l m r point else Ok point.line

-- what an entry shows, from its parts
abbrev pub called_with : Option (List ℕ) → Option (List ℕ) → ℤ → CalledFrame
called_with function filename line = record { function = function; filename = filename; line = line }

-- what an entry shows, by the records of its frame
unfoldable pub called_at : Layout → Memory → MemberAt → Point → Found CalledFrame
called_at l m r point = do
  function ← name_at l m (u64_in r.code l.code.name)
  filename ← name_at l m (u64_in r.code l.code.filename)
  line ← line_found_at l m r point
  Ok (called_with function filename line)

-- the same by what its record says
unfoldable pub there_at : Layout → TracebackPlaces → Memory → Point → Found CalledFrame
there_at l p m point = do
  at ← place_at p.inner m point.object
  r ← records_at l m at
  called_at l m r point

-- what the entry at an address shows
unfoldable pub frame_found_at : Layout → TracebackPlaces → Memory → ℕ → Found (Option CalledFrame)
frame_found_at l p m a = do
  point ← point_at p m a
  called ← there_at l p m point
  Ok (Some called)

-- what an entry shows is what was read of its frame, none where that failed; out of memory is handed on
abbrev pub IsFrameOrNone : Result (Option CalledFrame) StackError → Result (Option CalledFrame) ExceptionsError
    → Type 0
IsFrameOrNone (Ok x) result = result ≡ Ok x
IsFrameOrNone (Err e) result = NoneBy (stack_fault e) result

-- an entry at an address, with what it shows
abbrev pub entry_with : ℕ → Option CalledFrame → Entry
entry_with a frame = record { addr = a; frame = frame }

-- the entry at an address: what it shows, where all of that is there
unfoldable pub entry_at : Layout → TracebackPlaces → Memory → ℕ → Entry
entry_at l p m a = entry_with a (found_or_none (frame_found_at l p m a))
