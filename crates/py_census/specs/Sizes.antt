-- How many bytes the own block of an object has, without the values of attributes that stand in it from 3.13 on (bit 2
-- of a class's flags, `Py_TPFLAGS_INLINE_VALUES`): `_PySys_GetSizeOf` of Python/sysmodule.c, `object___sizeof___impl` of
-- Objects/typeobject.c, `long___sizeof___impl` of Objects/longobject.c. `sys.getsizeof` has the same of most classes that
-- keep no other blocks; of types it has their cached keys too, and up to 3.11 it leaves out where an integer of a subclass
-- has its dict. A class's flags (Include/object.h) say whether an object of it has a
-- count of items: `Py_TPFLAGS_LONG_SUBCLASS` (bit 24), `Py_TPFLAGS_TUPLE_SUBCLASS` (26), `Py_TPFLAGS_BYTES_SUBCLASS`
-- (27) and `Py_TPFLAGS_TYPE_SUBCLASS` (31); that none else has one is this project's rule. A size of 2^64 bytes or more
-- is none.
use Rattle.std.specs.Prelude.{ℕ, ◌+◌, ◌*◌, ◌^◌, nat_lt, ◌||◌, Bool, false, if◌then◌else◌, Option, Some, None}
use Rattle.process_memory.specs.Memory.{Memory, word_at}
use Rattle.py_fields.specs.declared.layout.Layout.{Layout}
use Rattle.py_fields.specs.declared.layout.Integers.{Integers}
use Rattle.py_fields.specs.declared.layout.Integers.TheVariants.{Signed, Tagged}
use Rattle.py_builtins.specs.Integers.{digits_of}
use Rattle.py_builtins.specs.Texts.{bit_is_set}
use Rattle.py_census.specs.Bases.{known, set_class_at}
use Rattle.py_census.specs.declared.places.SizePlaces.{SizePlaces}
use Rattle.py_census.specs.declared.places.WordsBefore.{WordsBefore}
use Rattle.py_census.specs.declared.places.WordsBefore.TheVariants.{Never, Dict, DictOrReferences}
use Rattle.py_census.specs.declared.sizes.ClassSize.{ClassSize}

-- the address of the class of an object, where that is in memory
abbrev pub class_at : Layout → Memory → ℕ → Option ℕ
class_at l m object = known (word_at m (object + l.object.klass))

-- ---- what a class says of its objects

-- what a class says of the sizes of its objects, where all of it can be read
abbrev pub class_size_by : (basic item flags : Option ℕ) → (of_sets : Option Bool) → Option ClassSize
class_size_by None item flags sets = None
class_size_by (Some b) None flags sets = None
class_size_by (Some b) (Some i) None sets = None
class_size_by (Some b) (Some i) (Some f) sets = Some (record { basic = b; item = i; flags = f; of_sets = sets })

-- the sizes and flags of a class, where all of them are in memory, and whether it is one of sets
abbrev pub class_size_at : Layout → SizePlaces → Memory → ℕ → Option ClassSize
class_size_at l p m class = class_size_by (known (word_at m (class + p.basic_size)))
    (known (word_at m (class + p.item_size))) (known (word_at m (class + l.klass.flags))) (set_class_at p m class)

-- whether a class is `int` or derives from it (`Py_TPFLAGS_LONG_SUBCLASS`, Include/object.h)
abbrev pub is_integer : (flags : ℕ) → Bool
is_integer flags = bit_is_set flags 24

-- whether objects of a class of these flags have a count of items
abbrev pub has_count : (flags : ℕ) → Bool
has_count flags = is_integer flags || bit_is_set flags 26 || bit_is_set flags 27 || bit_is_set flags 31

-- ---- what stands before an object

-- the bytes of the collector's head before an object (`PyGC_Head`), where its class has one
abbrev pub head_before : SizePlaces → (flags : ℕ) → ℕ
head_before p flags = if bit_is_set flags 14 then p.head_size else 0

-- whether two words stand before objects of a class (`_PyType_PreHeaderSize`)
abbrev pub has_words : WordsBefore → (flags : ℕ) → Bool
has_words Never flags = false
has_words Dict flags = bit_is_set flags 4
has_words DictOrReferences flags = bit_is_set flags 4 || bit_is_set flags 3

-- the bytes of the words before an object
abbrev pub words_before : SizePlaces → (flags : ℕ) → ℕ
words_before p flags = if has_words p.words_before flags then 16 else 0

-- ---- items

-- the digits of an integer; from 3.12 on there is room for one at least
abbrev pub digits : Integers → (word : ℕ) → ℕ
digits Signed word = (digits_of Signed word).count
digits Tagged word = if nat_lt (digits_of Tagged word).count 1 then 1 else (digits_of Tagged word).count

-- how many items an object of a class of these flags has, by its count
abbrev pub items_by : Integers → (flags word : ℕ) → ℕ
items_by integers flags word = if is_integer flags then digits integers word else word

-- how many items an object has, by the word that counts them, where it can be read
abbrev pub items_if : Integers → (flags : ℕ) → Option ℕ → Option ℕ
items_if integers flags None = None
items_if integers flags (Some word) = Some (items_by integers flags word)

-- how many items an object has, where its count is in memory or it has none
abbrev pub items_at : Layout → SizePlaces → Memory → ClassSize → (object : ℕ) → Option ℕ
items_at l p m class object = if has_count class.flags
    then items_if l.integers class.flags (known (word_at m (object + p.count)))
    else Some 0

-- ---- the size of an object

-- a number, where it is below 2^64
abbrev pub fits : ℕ → Option ℕ
fits n = if nat_lt n (2 ^ 64) then Some n else None

-- the size of an object of a class, by how many items it has
abbrev pub size_with : SizePlaces → ClassSize → Option ℕ → Option ℕ
size_with p class None = None
size_with p class (Some items) =
    fits (head_before p class.flags + words_before p class.flags + class.basic + items * class.item)

-- the bytes of an object's own block, where its class can be read
abbrev pub size_by : Layout → SizePlaces → Memory → Option ClassSize → (object : ℕ) → Option ℕ
size_by l p m None object = None
size_by l p m (Some class) object = size_with p class (items_at l p m class object)

-- how many bytes the own block of an object of a class has, where that is known
abbrev pub size_at : Layout → SizePlaces → Memory → (class object : ℕ) → Option ℕ
size_at l p m class object = size_by l p m (class_size_at l p m class) object
