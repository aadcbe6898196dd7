-- What a coroutine's frame shows: it is a frame as those of threads are, so that its texts and its line are told by the
-- same rules (`py_stacks`). That a text which can't be read is left out is this project's rule.
use Rattle.std.specs.Prelude.{ℕ, ◌^◌, nat_le, Bool, true, false, ℤ, List, Option, Some, None, Ok}
use Rattle.elf64_core.specs.Fields.{u64_in, u32_in}
use Rattle.process_memory.specs.Memory.{Found, Memory, ◌>>=◌}
use Rattle.py_fields.specs.declared.layout.Lasti.{Lasti}
use Rattle.py_fields.specs.declared.layout.Lasti.TheVariants.{Bytes, Units, Pointer}
use Rattle.py_fields.specs.declared.layout.Layout.{Layout}
use Rattle.py_stacks.specs.declared.asked.LineNo.{LineNo}
use Rattle.py_stacks.specs.declared.asked.LineNo.TheVariants.{First, LastInstruction}
use Rattle.py_stacks.specs.Frames.{name_at, records_at}
use Rattle.py_stacks.specs.Lines.{line_at}
use Rattle.py_stacks.specs.Member.{MemberAt}
use Rattle.py_coroutines.specs.declared.places.Family.{Family}
use Rattle.py_coroutines.specs.Members.{frame_place_at}
use Rattle.coroutine_frames.specs.declared.frame.CoroutineFrame.{CoroutineFrame}

-- whether a frame stands before its first instruction, where its last one is counted as an i32 (`f_lasti`)
abbrev pub is_unbegun : Lasti → Layout → MemberAt → Bool
is_unbegun Bytes l r = nat_le (2 ^ 31) (u32_in r.frame l.frame.instr)
is_unbegun Units l r = nat_le (2 ^ 31) (u32_in r.frame l.frame.instr)
is_unbegun Pointer l r = false

-- which line of code is asked for: the first one of a frame that has not begun, else its last instruction's
abbrev pub asked_line : Bool → LineNo
asked_line true = First
asked_line false = LastInstruction

-- the line of a coroutine's frame: before its first instruction the first one of its code, as CPython has it
unfoldable pub own_line_at : Layout → Memory → MemberAt → Found ℤ
own_line_at l m r = line_at (asked_line (is_unbegun l.lasti l r)) l m r

-- what a frame shows, from its parts
abbrev pub said_with : Option (List ℕ) → Option (List ℕ) → ℤ → CoroutineFrame
said_with function filename line = record { function = function; filename = filename; line = line }

-- what a frame shows, by its two records
unfoldable pub said_at : Layout → Memory → MemberAt → Found CoroutineFrame
said_at l m r = do
  function ← name_at l m (u64_in r.code l.code.name)
  filename ← name_at l m (u64_in r.code l.code.filename)
  line ← own_line_at l m r
  Ok (said_with function filename line)

-- that of the frame at an address
unfoldable pub there_at : Layout → Memory → ℕ → Found CoroutineFrame
there_at l m a = records_at l m a >>= said_at l m

-- the same, where there is one
unfoldable pub placed_at : Layout → Memory → Option ℕ → Found (Option CoroutineFrame)
placed_at l m None = Ok None
placed_at l m (Some a) = do
  said ← there_at l m a
  Ok (Some said)

-- that of the coroutine at an address
unfoldable pub frame_at : Layout → Family → Memory → ℕ → Found (Option CoroutineFrame)
frame_at l family m a = frame_place_at family m a >>= placed_at l m
