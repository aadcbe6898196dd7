-- How many bytes an object has in blocks of their own: `list___sizeof___impl` of Objects/listobject.c, and
-- `_PyDict_KeysSize` and `USABLE_FRACTION` of Objects/dictobject.c, by which a dict's keys count where their number of
-- owners is 1 (`_PyDict_SizeOf`), and `set_sizeof` of Objects/setobject.c (`set___sizeof___impl` from 3.13 on), by
-- which a set's table counts where it isn't the small one of the set's own block, and `type___sizeof___impl` of
-- Objects/typeobject.c, by which the keys that dicts share count with the type that keeps them (`ht_cached_keys`,
-- Include/cpython/object.h). Other blocks are not counted, by this project's rule.
use Rattle.std.specs.Prelude.{ℕ, ◌+◌, ◌*◌, ◌/◌, ◌%◌, ◌^◌, nat_eq, nat_lt, ◌&&◌, Bool, true, false, if◌then◌else◌}
use Rattle.std.specs.Prelude.{Option, Some, None}
use Rattle.process_memory.specs.Memory.{Memory, word_at}
use Rattle.py_fields.specs.declared.layout.Layout.{Layout}
use Rattle.py_builtins.specs.Texts.{bit_is_set}
use Rattle.py_census.specs.declared.places.KeysForm.{KeysForm}
use Rattle.py_census.specs.declared.places.KeysForm.TheVariants.{Slots, Powers}
use Rattle.py_census.specs.declared.places.SizePlaces.{SizePlaces}
use Rattle.py_census.specs.declared.sizes.ClassSize.{ClassSize}
use Rattle.py_census.specs.Bases.{known}
use Rattle.py_census.specs.Sizes.{class_size_at, fits}

-- `Py_TPFLAGS_LIST_SUBCLASS`, `Py_TPFLAGS_DICT_SUBCLASS`
abbrev pub is_list : (flags : ℕ) → Bool
is_list flags = bit_is_set flags 25

-- whether a class is `dict` or derives from it (`Py_TPFLAGS_DICT_SUBCLASS`, Include/object.h)
abbrev pub is_dict : (flags : ℕ) → Bool
is_dict flags = bit_is_set flags 29

-- ---- lists

-- items of a list, each an address
abbrev pub room_of : Option ℕ → Option ℕ
room_of None = None
room_of (Some items) = fits (items * 8)

-- the block of a list's items, as many as it has room for
abbrev pub room_at : SizePlaces → Memory → (object : ℕ) → Option ℕ
room_at p m object = room_of (known (word_at m (object + p.allocated)))

-- ---- dicts

-- an index has a number for each slot, of as many bytes as numbers up to that of the slots need
abbrev pub index_width : (slots : ℕ) → ℕ
index_width n = if nat_lt n 256 then 1 else (if nat_lt n 65536 then 2 else (if nat_lt n (2 ^ 32) then 4 else 8))

-- an entry has a hash, a key and a value; of other kinds than 0 no hash
abbrev pub entry_size : (kind : ℕ) → ℕ
entry_size kind = if nat_eq kind 0 then 24 else 16

-- a head, an index, and entries for two of three slots
abbrev pub slots_bytes : (slots : ℕ) → Option ℕ
slots_bytes n = fits (40 + n * index_width n + n * 2 / 3 * 24)

-- the bytes of keys whose record has powers of two (`DK_LOG_SIZE`, from 3.11 on, Objects/dictobject.c)
abbrev pub powered : (slots index kind : ℕ) → Option ℕ
powered slots index kind = fits (32 + 2 ^ index + 2 ^ slots * 2 / 3 * entry_size kind)

-- the same by three bytes of a word
abbrev pub powers_bytes : (word : ℕ) → Option ℕ
powers_bytes w = if nat_lt (w % 256) 64 && nat_lt (w / 256 % 256) 64
    then powered (w % 256) (w / 256 % 256) (w / 65536 % 256)
    else None

-- the bytes of a dict's keys, by how their record states the size
abbrev pub keys_bytes : KeysForm → (word : ℕ) → Option ℕ
keys_bytes Slots w = slots_bytes w
keys_bytes Powers w = powers_bytes w

-- keys count where one object alone has them
abbrev pub own_bytes : KeysForm → (owners word : Option ℕ) → Option ℕ
own_bytes form None word = None
own_bytes form (Some owners) None = None
own_bytes form (Some owners) (Some word) = if nat_eq owners 1 then keys_bytes form word else Some 0

-- the bytes of the keys that a dict names
abbrev pub keys_at : SizePlaces → Memory → (keys : Option ℕ) → Option ℕ
keys_at p m None = None
keys_at p m (Some keys) = own_bytes p.keys_form (known (word_at m (keys + 0))) (known (word_at m (keys + 8)))

-- the block of a dict's keys
abbrev pub dict_at : SizePlaces → Memory → (object : ℕ) → Option ℕ
dict_at p m object = keys_at p m (known (word_at m (object + p.keys)))

-- ---- types

-- `Py_TPFLAGS_TYPE_SUBCLASS`
abbrev pub is_type : (flags : ℕ) → Bool
is_type flags = bit_is_set flags 31

-- the bytes of a dict's keys, where the word that states their size can be read
abbrev pub bytes_if : KeysForm → (word : Option ℕ) → Option ℕ
bytes_if form None = None
bytes_if form (Some word) = keys_bytes form word

-- keys that a type keeps count with it, whoever else has them; a type may keep none
abbrev pub shared_keys : SizePlaces → Memory → (keys : Option ℕ) → Option ℕ
shared_keys p m None = None
shared_keys p m (Some keys) =
    if nat_eq keys 0 then Some 0 else bytes_if p.keys_form (known (word_at m (keys + 8)))

-- the block of the keys that the dicts of a type's objects share: the collector tracks types of the heap alone
-- (`type_is_gc` of Objects/typeobject.c), so each is taken for one
abbrev pub type_at : SizePlaces → Memory → (object : ℕ) → Option ℕ
type_at p m object = shared_keys p m (known (word_at m (object + p.cached_keys)))

-- ---- sets

-- entries of a table, one more than the mask, each of a key and a hash
abbrev pub entries_bytes : (mask : ℕ) → Option ℕ
entries_bytes mask = fits ((mask + 1) * 16)

-- whether a table is the small one of a set's own block
abbrev pub is_small : (object own table : ℕ) → Bool
is_small object own table = nat_eq table (object + own)

-- the table of a set, where it isn't that one
abbrev pub table_by : (object own : ℕ) → (table mask : Option ℕ) → Option ℕ
table_by object own None mask = None
table_by object own (Some table) None = None
table_by object own (Some table) (Some mask) = if is_small object own table then Some 0 else entries_bytes mask

-- the bytes of a set's table, where it isn't inside the object (Objects/setobject.c)
abbrev pub table_at : SizePlaces → Memory → (object : ℕ) → Option ℕ
table_at p m object = table_by object p.own_table (known (word_at m (object + p.table)))
    (known (word_at m (object + p.mask)))

-- the block of an object of a class that is one of sets, or is none; none where that is not known
abbrev pub set_at : SizePlaces → Memory → (of_sets : Option Bool) → (object : ℕ) → Option ℕ
set_at p m None object = None
set_at p m (Some false) object = Some 0
set_at p m (Some true) object = table_at p m object

-- ---- objects

-- the bytes of the separate block of a list, a dict or a set
abbrev pub block_at : SizePlaces → Memory → ClassSize → (object : ℕ) → Option ℕ
block_at p m class object = if is_list class.flags then room_at p m object
    else (if is_dict class.flags then dict_at p m object
    else (if is_type class.flags then type_at p m object else set_at p m class.of_sets object))

-- the same, where the class can be read
abbrev pub more_by : SizePlaces → Memory → Option ClassSize → (object : ℕ) → Option ℕ
more_by p m None object = None
more_by p m (Some class) object = block_at p m class object

-- how many bytes an object of a class has in blocks of their own, where that is known
abbrev pub more_at : Layout → SizePlaces → Memory → (class object : ℕ) → Option ℕ
more_at l p m class object = more_by p m (class_size_at l p m class) object
