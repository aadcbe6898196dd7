-- Sets and weak references: CPython's `setobject` (Include/setobject.h, Objects/setobject.c) and `PyWeakReference`
-- (Include/weakrefobject.h). That a set has 2^20 entries at most, and that a reference which is not in memory stands
-- for itself, is this project's rule.
use Rattle.std.specs.Prelude.{◌≡◌, ℕ, ◌+◌, ◌-◌, ◌*◌, ◌^◌, nat_lt, nat_eq, ◌||◌, Option, Some, None}
use Rattle.std.specs.Prelude.{Result, Ok, Err, if◌then◌else◌}
use Rattle.process_memory.specs.Memory.{Memory, Found, ◌>>=◌, word_at}
use Rattle.process_memory.specs.Memory.Fault.{Entries as ManyEntries}
use Rattle.process_memory.specs.declared.memory.ReadFault.{ReadFault}
use Rattle.process_memory.specs.declared.memory.ReadFault.TheVariants.{Unreadable, OutOfMemory}
use Rattle.py_names.specs.declared.names_error.NamesError.{NamesError}
use Rattle.py_names.specs.declared.names_error.NamesError.TheVariants.{OutOfMemory as HasNoMemory}
use Rattle.task_sets.specs.declared.places.SetPlaces.{SetPlaces}
use Rattle.task_sets.specs.declared.sets.Entries.{Entries}
use Rattle.task_sets.specs.declared.sets.SetKind.{SetKind}
use Rattle.task_sets.specs.declared.sets.SetKind.TheVariants.{Plain, Weak}

-- the entries of a set, by their number less 1
unfoldable pub entries_of : ℕ → ℕ → Found Entries
entries_of mask table = if nat_lt mask (2 ^ 20) then Ok (record { table = table; count = mask + 1 }) else Err
    ManyEntries

-- the table of a set, and how many entries it has
unfoldable pub entries_at : SetPlaces → Memory → ℕ → Found Entries
entries_at p m a = do
  mask ← word_at m (a + p.mask)
  table ← word_at m (a + p.table)
  entries_of mask table

-- those of a set, where there is one
unfoldable pub table_at : SetPlaces → Memory → Option ℕ → Found Entries
table_at p m None = Ok (record { table = 0; count = 0 })
table_at p m (Some a) = entries_at p m a

-- the member that an entry has: an entry without a key has none, nor one whose member was taken away
unfoldable pub member_of : ℕ → ℕ → Option ℕ
member_of key hash = if nat_eq key 0 || nat_eq hash (2 ^ 64 - 1) then None else Some key

-- the object of a weak reference, else the reference itself
abbrev pub referent_or : ℕ → Found ℕ → ℕ
referent_or reference (Ok object) = object
referent_or reference (Err f) = reference

-- the object of a weak reference
unfoldable pub referent_at : SetPlaces → Memory → ℕ → Found ℕ
referent_at p m reference = Ok (referent_or reference (word_at m (reference + p.referent)))

-- what becomes of a reference that was not read
abbrev pub IsUnread : ℕ → ReadFault → Result ℕ NamesError → Type 0
IsUnread reference (Unreadable addr len) result = result ≡ Ok reference
IsUnread reference OutOfMemory result = result ≡ Err HasNoMemory

-- the object that a member stands for
abbrev pub by_kind : SetPlaces → SetKind → Memory → ℕ → Found (Option ℕ)
by_kind p Plain m member = Ok (Some member)
by_kind p Weak m member = do
  object ← referent_at p m member
  Ok (Some object)

-- the object that a member of a set leads to; none of an empty entry
unfoldable pub led_at : SetPlaces → SetKind → Memory → Option ℕ → Found (Option ℕ)
led_at p kind m None = Ok None
led_at p kind m (Some member) = by_kind p kind m member

-- the object that the entry of a number stands for
unfoldable pub object_at : SetPlaces → SetKind → Memory → ℕ → ℕ → Found (Option ℕ)
object_at p kind m table number = do
  key ← word_at m (table + number * p.step + p.key)
  hash ← word_at m (table + number * p.step + p.hash)
  led_at p kind m (member_of key hash)
