-- The items of lists and tuples. The rules are CPython's of its list and tuple objects.
use Rattle.std.specs.Prelude.{ℕ, ◌+◌, ◌*◌, ◌^◌, nat_lt, if◌then◌else◌, List, Ok, Err}
use Rattle.std.specs.Int.{w64, cast_signed}
use Rattle.elf64_core.specs.Fields.{u64_in}
use Rattle.process_memory.specs.Memory.{Memory, Found, ◌>>=◌, record_at, word_at}
use Rattle.process_memory.specs.Memory.Fault.{BadCount}
use Rattle.py_fields.specs.declared.layout.Layout.{Layout}
use Rattle.py_builtins.specs.declared.items.CountAt.{CountAt}
use Rattle.py_builtins.specs.declared.items.Items.{Items}
use Rattle.py_builtins.specs.declared.items.Sequence.{Sequence}
use Rattle.py_builtins.specs.declared.items.Sequence.TheVariants.{List as ListItems, Tuple as TupleItems}

-- how long the record of a list or a tuple is, and where it states how many items there are
abbrev pub count_at : Layout → Sequence → CountAt
count_at l ListItems = record { size = l.list.size; count = l.list.count }
count_at l TupleItems = record { size = l.tuple.size; count = l.tuple.count }

-- a count of items, by the 8 bytes that state it, unless it is negative
unfoldable pub item_count : ℕ → Found ℕ
item_count n = if nat_lt n (2 ^ 63) then Ok n else Err (BadCount (cast_signed w64 n))

-- so many items of the list or the tuple at `a` with this record: a list's record names the array of their
-- addresses, and in a tuple it stands behind the record
abbrev pub items_by : Layout → Sequence → ℕ → List ℕ → ℕ → Items
items_by l ListItems a list n = record { count = n; base = u64_in list l.list.items; offset = 0 }
items_by l TupleItems a tuple n = record { count = n; base = a; offset = l.tuple.at }

-- the items of the list or the tuple at an address: how many there are, and where their addresses stand
unfoldable pub items_at : Layout → Memory → Sequence → ℕ → Found Items
items_at l m s a = do
  object ← record_at m a (count_at l s).size
  n ← item_count (u64_in object (count_at l s).count)
  Ok (items_by l s a object n)

-- the item of a number, from 0 on
unfoldable pub item_at : Memory → Items → ℕ → Found ℕ
item_at m items number = word_at m (items.base + items.offset + 8 * number)
