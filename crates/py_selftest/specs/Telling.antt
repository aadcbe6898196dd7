-- What a process tells of its own records: by the members of its types and how many bytes their instances have, and by
-- the table of 3.13. Where a type's words stand is CPython's rule (`PyTypeObject`), the same in 2.7 and in 3.6 to 3.13.
use Rattle.std.specs.Prelude.{ℕ, ◌+◌, ◌-◌, ◌==◌, ◌&&◌, ◌||◌, nat_lt, nat_le, not, Bool, true, false, if◌then◌else◌}
use Rattle.std.specs.Prelude.{List}
use Rattle.std.specs.Prelude.{Option, Some, None, Result, Ok, Err, codes}
use Rattle.process_memory.specs.Memory.{Memory, Found, ◌>>=◌, word_at}
use Rattle.process_memory.specs.declared.memory.ReadFault.{ReadFault}
use Rattle.process_memory.specs.declared.memory.ReadFault.TheVariants.{Unreadable, OutOfMemory}
use Rattle.py_selftest.specs.declared.rows.BuiltIn.{BuiltIn}
use Rattle.py_selftest.specs.declared.rows.BuiltIn.TheVariants.{Metatype, Code, Frame, Tuple, Bytes, Long}
use Rattle.py_selftest.specs.declared.rows.When.{When}
use Rattle.py_selftest.specs.declared.rows.When.TheVariants.{Never, Always, BeforeEleven, FromEleven}
use Rattle.py_selftest.specs.declared.rows.Entry.{Entry}
use Rattle.py_selftest.specs.declared.rows.Entry.TheVariants.{Absent, At, Behind}
use Rattle.py_selftest.specs.declared.telling.Placed.{Placed}
use Rattle.py_selftest.specs.declared.telling.Release.{Release}
use Rattle.py_selftest.specs.declared.telling.Telling.{Telling}
use Rattle.py_selftest.specs.declared.telling.Types.{Types}
use Rattle.py_selftest.specs.Members.{member_place_at}
use Rattle.py_selftest.specs.Rows.{Row, Source}
use Rattle.py_selftest.specs.Rows.Source.{Nothing, Member, LineTable, BasicSize, OwnPlace}

-- a version of Python stands before this minor of major 3
abbrev pub is_before : Release → ℕ → Bool
is_before r minor = nat_lt r.major 3 || (r.major == 3 && nat_lt r.minor minor)

-- whether something is said of a version
abbrev pub applies : When → Release → Bool
applies Never r = false
applies Always r = true
applies BeforeEleven r = is_before r 11
applies FromEleven r = not (is_before r 11)

-- the address of a built-in type, where it is known
abbrev pub address_of : Types → BuiltIn → Option ℕ
address_of t Metatype = t.metatype
address_of t Code = t.code
address_of t Frame = t.frame
address_of t Tuple = t.tuple
address_of t Bytes = t.bytes
address_of t Long = t.long

-- a type with the place where it names its own type, where both are known
abbrev pub both : Option ℕ → Option ℕ → Option Placed
both None of = None
both (Some own) None = None
both (Some own) (Some of) = Some (record { own = own; of = of })

-- a built-in type that tells, where a type names its own type at a known place
abbrev pub placed : Telling → BuiltIn → Option Placed
placed t of = both t.own (address_of t.types of)

-- the member of code that is its line table
abbrev pub line_table : Release → List ℕ
line_table r = if is_before r 10 then codes "co_lnotab" else codes "co_linetable"

-- a number less another one, where that is no larger
abbrev pub less : ℕ → ℕ → Option ℕ
less n by = if nat_le by n then Some (n - by) else None

-- what is told, and none where it is not in memory
abbrev pub kept : {T : Type 0} → Found (Option T) → Found (Option T)
kept (Ok told) = Ok told
kept (Err fault) = Ok None

-- the same of a reader's result, whose out of memory stays
abbrev pub kept_result : {T : Type 0} → Result (Option T) ReadFault → Result (Option T) ReadFault
kept_result (Ok told) = Ok told
kept_result (Err (Unreadable a n)) = Ok None
kept_result (Err OutOfMemory) = Err OutOfMemory

-- where the member of a name of a type stands, where the type tells and the member has so many bytes
unfoldable pub member_placed : Memory → List ℕ → ℕ → Option Placed → Found (Option ℕ)
member_placed m name width None = Ok None
member_placed m name width (Some it) = member_place_at m it.own it.of name width

-- where the member of a name of a built-in type stands, if it has so many bytes
abbrev pub member_told : Memory → Telling → BuiltIn → List ℕ → ℕ → Found (Option ℕ)
member_told m t of name width = member_placed m name width (placed t of)

-- how many bytes an instance of a type has, less so many, where the type tells (`tp_basicsize`)
unfoldable pub size_placed : Memory → ℕ → Option Placed → Found (Option ℕ)
size_placed m by None = Ok None
size_placed m by (Some it) = do
  size ← word_at m (it.of + (it.own + 24))
  Ok (less size by)

-- how many bytes an instance of a built-in type has, less so many (`tp_basicsize`)
abbrev pub size_told : Memory → Telling → BuiltIn → ℕ → Found (Option ℕ)
size_told m t of by = size_placed m by (placed t of)

-- the same, where it is said of this version
abbrev pub size_if : Memory → Telling → BuiltIn → ℕ → Bool → Found (Option ℕ)
size_if m t of by true = size_told m t of by
size_if m t of by false = Ok None

-- the number that the types tell
unfoldable pub source_told : Memory → Telling → ℕ → Source → Found (Option ℕ)
source_told m t width Nothing = Ok None
source_told m t width (Member of name) = member_told m t of name width
source_told m t width LineTable = member_told m t Code (line_table t.release) width
source_told m t width (BasicSize of by when) = size_if m t of by (applies when t.release)
source_told m t width OwnPlace = Ok t.own

-- the number of a word of the table, and the same less that of another one
unfoldable pub word_told : Memory → ℕ → ℕ → Found (Option ℕ)
word_told m table at = do
  number ← word_at m (table + at)
  Ok (Some number)

-- a word of the table less another one, where that is no larger
unfoldable pub words_apart : Memory → ℕ → ℕ → ℕ → Found (Option ℕ)
words_apart m table at from = do
  number ← word_at m (table + at)
  by ← word_at m (table + from)
  Ok (less number by)

-- the number that an entry of the table tells; none where the table doesn't have it
abbrev pub entry_in : Memory → ℕ → Entry → Found (Option ℕ)
entry_in m table Absent = Ok None
entry_in m table (At at) = word_told m table at
entry_in m table (Behind at from) = words_apart m table at from

-- the number that the table of 3.13 tells
abbrev pub entry_told : Memory → Option ℕ → Entry → Found (Option ℕ)
entry_told m None entry = Ok None
entry_told m (Some table) entry = entry_in m table entry

-- the number that the table told, else what the types tell
unfoldable pub told_else : Memory → Telling → Row → Option ℕ → Found (Option ℕ)
told_else m t row (Some number) = Ok (Some number)
told_else m t row None = kept (source_told m t row.width row.source)

-- the number that the process tells of a row: the table's, else the types'
unfoldable pub row_told : Memory → Telling → Row → Found (Option ℕ)
row_told m t row = kept (entry_told m t.table row.entry) >>= told_else m t row
