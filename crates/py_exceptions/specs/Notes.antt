-- The notes of an exception: a list or a tuple that its own dict has under the name `__notes__`
-- (`BaseException_add_note`, Objects/exceptions.c). Which objects are lists and tuples the flags of their types say
-- (`PyList_Check`, `PyTuple_Check`).
use Rattle.std.specs.Prelude.{ℕ, ◌/◌, ◌%◌, ◌^◌, nat_eq, Option, Some, None, Ok, codes, if◌then◌else◌}
use Rattle.process_memory.specs.Memory.{Found, Memory, ◌>>=◌}
use Rattle.py_fields.specs.declared.layout.Layout.{Layout}
use Rattle.py_builtins.specs.declared.items.Sequence.{Sequence}
use Rattle.py_builtins.specs.declared.items.Sequence.TheVariants as sequence
use Rattle.py_builtins.specs.Types.{type_at}
use Rattle.py_exceptions.specs.declared.notes.Notes as read
use Rattle.py_exceptions.specs.declared.notes.Notes.TheVariants as reads
use Rattle.py_exceptions.specs.Entries.{entry_at}
use Rattle.py_exceptions.specs.Faults.{found_or_none}
use Rattle.py_exceptions.specs.ValueLists.{ValuesShown, values_at, values_shown}

-- there are none; these; or they can't be read
pub data NotesShown : Type 0 where
  Without : NotesShown
  Listed : ValuesShown → NotesShown
  Unreadable : NotesShown

-- notes, as the code has them
abbrev pub notes_shown : read.Notes → NotesShown
notes_shown reads.Without = NotesShown.Without
notes_shown (reads.Listed v) = NotesShown.Listed (values_shown v)
notes_shown reads.Unreadable = NotesShown.Unreadable

-- notes by the values of their list; unreadable where these can't be read
abbrev pub notes_of : Option ValuesShown → NotesShown
notes_of None = NotesShown.Unreadable
notes_of (Some v) = NotesShown.Listed v

-- what the objects of a type of these flags are, where they are lists (bit 25) or tuples (bit 26)
unfoldable pub sequence_of : ℕ → Option Sequence
sequence_of flags =
    if nat_eq (flags / 2 ^ 25 % 2) 1 then Some sequence.List
    else if nat_eq (flags / 2 ^ 26 % 2) 1 then Some sequence.Tuple
    else None

-- whether the object at an address is a list or a tuple, by the flags of its type; none of another one
unfoldable pub sequence_found_at : Layout → Memory → ℕ → Found (Option Sequence)
sequence_found_at l m a = do
  t ← type_at l m a
  Ok (sequence_of t.flags)

-- the notes that a list or a tuple at an address has; unreadable where the object isn't known to be either
abbrev pub list_by : Layout → Memory → ℕ → Option Sequence → NotesShown
list_by l m a None = NotesShown.Unreadable
list_by l m a (Some s) = notes_of (values_at l m s a)

-- the notes that the object at an address is
unfoldable pub list_at : Layout → Memory → ℕ → NotesShown
list_at l m a = list_by l m a (found_or_none (sequence_found_at l m a))

-- what a dict has under `__notes__`, if anything
unfoldable pub noted_at : Layout → Memory → ℕ → Found (Option (Option ℕ))
noted_at l m dict = do
  found ← entry_at l m dict (codes "__notes__")
  Ok (Some found)

-- the notes that stand at an address
abbrev pub found_by : Layout → Memory → Option ℕ → NotesShown
found_by l m None = NotesShown.Without
found_by l m (Some a) = list_at l m a

-- the notes by what was found in the dict; unreadable where that isn't known
abbrev pub notes_by : Layout → Memory → Option (Option ℕ) → NotesShown
notes_by l m None = NotesShown.Unreadable
notes_by l m (Some found) = found_by l m found

-- the notes of the exception whose dict stands at an address, none at 0
unfoldable pub notes_at : Layout → Memory → ℕ → NotesShown
notes_at l m dict = if nat_eq dict 0 then NotesShown.Without else notes_by l m (found_or_none (noted_at l m dict))
