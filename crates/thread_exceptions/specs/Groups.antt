-- Groups of exceptions: which types they have, and their members (`PyBaseExceptionGroupObject`,
-- Include/cpython/pyerrors.h; Objects/exceptions.c). That a type is told by its name and by being none that a program
-- in Python made, and that at most 4,096 members are told, are this project's rules.
use Rattle.std.specs.Prelude.{ℕ, zero, suc, ◌+◌, ◌-◌, ◌*◌, ◌/◌, ◌%◌, ◌^◌, ◌&&◌, ◌++◌, min, nat_eq, Bool, true, false}
use Rattle.std.specs.Prelude.{List, [], ◌∷◌, Option, Some, None, Ok, Err, if◌then◌else◌, bytes_eq, codes}
use Rattle.std.specs.List.{list_any}
use Rattle.elf64_core.specs.Fields.{u64_in}
use Rattle.process_memory.specs.Memory.{Fault, Found, Memory, ◌>>=◌, record_at, word_at}
use Rattle.process_memory.specs.Memory.Fault.{Missing}
use Rattle.thread_exceptions.specs.declared.groups.Members as read
use Rattle.thread_exceptions.specs.declared.groups.Members.TheVariants as reads
use Rattle.thread_exceptions.specs.declared.groups.Row.{Row}
use Rattle.thread_exceptions.specs.declared.places.GroupPlaces.{GroupPlaces}
use Rattle.thread_exceptions.specs.declared.places.Places.{Places}
use Rattle.thread_exceptions.specs.Links.{chain_from}
use Rattle.thread_exceptions.specs.Turns.{turn_at}

-- the members of an exception: it is no group; these, and so many more; or which they are is not in memory
pub data Members : Type 0 where
  NoGroup : Members
  Group : (members : List ℕ) → (left_out : ℕ) → Members
  Lost : Fault → Members

-- ---- which types

-- a type that no program in Python made: none of the heap (bit 9, `Py_TPFLAGS_HEAPTYPE`)
unfoldable pub is_builtin : ℕ → Bool
is_builtin flags = nat_eq (flags / 2 ^ 9 % 2) 0

-- the name of the type that all groups are based on, with the nul behind it
unfoldable pub is_group_named : List ℕ → Bool
is_group_named name = bytes_eq name (codes "BaseExceptionGroup" ++ 0 ∷ [])

-- a type of these flags and this name is the one that all groups are based on
abbrev pub is_group_type : ℕ → List ℕ → Bool
is_group_type flags name = is_builtin flags && is_group_named name

-- whether the type at an address is the one that all groups are based on
unfoldable pub group_class_at : Places → Memory → ℕ → Found Bool
group_class_at p m class = do
  flags ← word_at m (class + p.flags)
  at ← word_at m (class + p.name)
  name ← record_at m at 19
  Ok (is_group_type flags name)

-- whether it holds; not where it can't be read
abbrev pub known : Found Bool → Bool
known (Ok is) = is
known (Err f) = false

-- a type that can't be read is not known to be it
abbrev pub grouped_at : Places → Memory → ℕ → Bool
grouped_at p m class = known (group_class_at p m class)

-- a type, or one of the first 63 that it is based on, is the one that all groups are based on
unfoldable pub is_group_at : Places → Memory → ℕ → Bool
is_group_at p m class = list_any (grouped_at p m) (chain_from (turn_at p.base m) [] 64 class).members

-- ---- members

-- so many numbers of 8 bytes each from a place on
unfoldable pub words_in : ℕ → List ℕ → ℕ → List ℕ
words_in zero bytes at = []
words_in (suc count) bytes at = u64_in bytes at ∷ words_in count bytes (at + 8)

-- where the tuple of a group's members has them, and how many it says that there are
unfoldable pub row_at : GroupPlaces → Memory → ℕ → Found Row
row_at p m a = do
  tuple ← word_at m (a + p.members)
  count ← word_at m (tuple + p.count)
  Ok (record { first = tuple + p.items; count = count })

-- a group of so many members, of which the bytes of the first 4096 addresses were read
abbrev pub group_by : ℕ → Found (List ℕ) → Members
group_by count (Ok bytes) = Group (words_in (min count 4096) bytes 0) (count - min count 4096)
group_by count (Err f) = Lost f

-- the members of a group, by where their addresses stand
abbrev pub listed_at : Memory → Row → Members
listed_at m row = group_by row.count (record_at m row.first (8 * min row.count 4096))

-- the members of a group; lost where its tuple can't be read
abbrev pub told_members : Found Row → Memory → Members
told_members (Ok row) m = listed_at m row
told_members (Err f) m = Lost f

-- the members of an exception, if it is a group
abbrev pub members_if : GroupPlaces → Bool → Memory → ℕ → Members
members_if group false m a = NoGroup
members_if group true m a = told_members (row_at group m a) m

-- the same, where the version has groups
abbrev pub members_by : Option GroupPlaces → Bool → Memory → ℕ → Members
members_by None is m a = NoGroup
members_by (Some group) is m a = members_if group is m a

-- the members of the exception of a type at an address
unfoldable pub members_at : Places → Memory → ℕ → ℕ → Members
members_at p m a class = members_by p.group (is_group_at p m class) m a

-- ---- as they are read

-- the members of an exception, as the code has them
abbrev pub members_of : read.Members → Members
members_of reads.NoGroup = NoGroup
members_of (reads.Group g) = Group g.members.items g.left_out
members_of (reads.Unreadable l) = Lost (Missing l.addr l.len)
