-- The members of a type, as its own table names them. An entry of 40 bytes has the address of its name, a code that
-- says of which kind it is, in 4 bytes at 8, and where it stands in an instance, at 16; a name of 0 ends the table. That is
-- CPython's rule (`PyMemberDef`, Include/structmember.h), the same in 2.7 and in 3.6 to 3.13; so many entries are
-- looked at by this project's.
use Rattle.std.specs.Prelude.{ℕ, zero, suc, ◌+◌, ◌*◌, ◌%◌, ◌==◌, ◌||◌, Bool, true, false, if◌then◌else◌, List, length}
use Rattle.std.specs.Prelude.{Option, Some, None, Ok, bytes_eq, nat_lt}
use Rattle.elf64_core.specs.Nul.{until_nul}
use Rattle.process_memory.specs.Memory.{Memory, Found as Read, ◌>>=◌, record_at, word_at}
use Rattle.py_selftest.specs.declared.members.Member.{Member}
use Rattle.py_selftest.specs.declared.members.Step.{Step}
use Rattle.py_selftest.specs.declared.members.Step.TheVariants.{End, Found, Other}

-- whether a text is there and is this name
abbrev pub is_text : List ℕ → Option (List ℕ) → Bool
is_text name None = false
is_text name (Some text) = bytes_eq text name

-- the bytes before the first nul are a name
unfoldable pub is_named : List ℕ → List ℕ → Bool
is_named chars name = is_text name (until_nul chars)

-- whether the name stands at an address with a nul behind it; never where it is too long
unfoldable pub is_called_if : Memory → List ℕ → ℕ → Bool → Read Bool
is_called_if m name a true = Ok false
is_called_if m name a false = do
  chars ← record_at m a (length name + 1)
  Ok (is_named chars name)

-- the name stands at an address, with a nul behind it; one of more than 1024 bytes never does
abbrev pub is_called_at : Memory → List ℕ → ℕ → Read Bool
is_called_at m name a = is_called_if m name a (nat_lt 1024 (length name))

-- the codes of an int and an unsigned one
abbrev pub is_int : ℕ → Bool
is_int code = code == 1 || code == 11

-- those of a long, of an object, of an unsigned long, of an object that has to be there, and of a size
abbrev pub is_wide : ℕ → Bool
is_wide code = code == 2 || code == 6 || code == 12 || code == 16 || code == 19

-- how many bytes a member has, by its code; 0 of a code that is not looked at. 14 is that of a truth value
abbrev pub width_by : ℕ → ℕ
width_by code = if is_int code then 4 else if is_wide code then 8 else if code == 14 then 1 else 0

-- how many bytes a member has, by the word at 8 of its entry, whose low 4 bytes are its code
unfoldable pub width_of : ℕ → ℕ
width_of word = width_by (word % 4294967296)

-- the member of the entry at an offset of a table
unfoldable pub entry_at : Memory → ℕ → ℕ → Read Step
entry_at m table offset = do
  code ← word_at m (table + (offset + 8))
  place ← word_at m (table + (offset + 16))
  Ok (Found (record { offset = place; width = width_of code }))

-- the same, if it is the one that is looked for
abbrev pub member_if_at : Memory → ℕ → ℕ → Bool → Read Step
member_if_at m table offset false = Ok Other
member_if_at m table offset true = entry_at m table offset

-- what the entry is whose name stands there; 0 is the end
unfoldable pub step_by : Memory → List ℕ → ℕ → ℕ → ℕ → Read Step
step_by m name table offset zero = Ok End
step_by m name table offset (suc a) = is_called_at m name (suc a) >>= member_if_at m table offset

-- what the entry at an offset of a table is, for a name
unfoldable pub step_at : Memory → List ℕ → ℕ → ℕ → Read Step
step_at m name table offset = word_at m (table + offset) >>= step_by m name table offset

-- what is found where this is one entry, and behind it the rest
abbrev pub found_by : Read (Option Member) → Step → Read (Option Member)
found_by rest End = Ok None
found_by rest (Found member) = Ok (Some member)
found_by rest Other = rest

-- the first member of a name among so many entries of a table, from a number on, before the end
unfoldable pub member_from : Memory → List ℕ → ℕ → ℕ → ℕ → Read (Option Member)
member_from m name table zero number = Ok None
member_from m name table (suc left) number =
    step_at m name table (number * 40) >>= found_by (member_from m name table left (number + 1))

-- the member of a name of the type at an address, where a type names its own type at `own` (`tp_members`)
unfoldable pub member_at : Memory → ℕ → ℕ → List ℕ → Read (Option Member)
member_at m own of name = do
  table ← word_at m (of + (own + 232))
  member_from m name table 256 0

-- where a member stands in an instance, if it has the right number of bytes
abbrev pub offset_if : Member → Bool → Option ℕ
offset_if member true = Some member.offset
offset_if member false = None

-- where a member stands that has so many bytes
abbrev pub place_of : Option Member → ℕ → Option ℕ
place_of None width = None
place_of (Some member) width = offset_if member (member.width == width)

-- where the member of a name stands in an instance of a type, if it has so many bytes
unfoldable pub member_place_at : Memory → ℕ → ℕ → List ℕ → ℕ → Read (Option ℕ)
member_place_at m own of name width = do
  found ← member_at m own of name
  Ok (place_of found width)
