-- Where the sizes of objects stand, by version: `PyVarObject` of Include/object.h and `PyTypeObject` of
-- Include/cpython/object.h (up to 3.7 both of Include/object.h), `PyGC_Head` of Include/objimpl.h (3.7),
-- Include/cpython/objimpl.h and Include/internal/pycore_gc.h, `_PyType_PreHeaderSize` of
-- Include/internal/pycore_object.h, `PyListObject` of Include/cpython/listobject.h (up to 3.8 Include/listobject.h), and
-- `PySetObject` of Include/cpython/setobject.h (up to 3.10 Include/setobject.h). The numbers are those of machines of
-- 8 byte words.
use Rattle.std.specs.Prelude.{ℕ, nat_eq, ◌||◌, if◌then◌else◌, Option, Some, None}
use Rattle.py_census.specs.declared.places.KeysForm.{KeysForm}
use Rattle.py_census.specs.declared.places.KeysForm.TheVariants.{Slots, Powers}
use Rattle.py_census.specs.declared.places.SetClasses.{SetClasses}
use Rattle.py_census.specs.declared.places.SizePlaces.{SizePlaces}
use Rattle.py_census.specs.declared.places.WordsBefore.{WordsBefore}
use Rattle.py_census.specs.declared.places.WordsBefore.TheVariants.{Never, Dict, DictOrReferences}

-- where the numbers of sizes stand, of the versions that have these four
abbrev pub places_with : Option SetClasses → (cached_keys head_size : ℕ) → WordsBefore → KeysForm → SizePlaces
places_with sets cached_keys head_size words_before keys_form = record {
  count = 16;
  allocated = 32;
  keys = 32;
  keys_form = keys_form;
  cached_keys = cached_keys;
  mask = 32;
  table = 40;
  own_table = 64;
  sets = sets;
  base = 256;
  basic_size = 32;
  item_size = 40;
  head_size = head_size;
  words_before = words_before;
}

-- where the numbers of sizes stand, by the minor version of Python 3
abbrev pub places_of_3 : Option SetClasses → (cached_keys minor : ℕ) → Option SizePlaces
places_of_3 sets cached_keys minor =
    if nat_eq minor 7 then Some (places_with sets cached_keys 32 Never Slots)
    else (if nat_eq minor 8 || nat_eq minor 9 || nat_eq minor 10 then Some (places_with sets cached_keys 16 Never Slots)
    else (if nat_eq minor 11 then Some (places_with sets cached_keys 16 Dict Powers)
    else (if nat_eq minor 12 || nat_eq minor 13 then Some (places_with sets cached_keys 16 DictOrReferences Powers)
    else None)))

-- where the sizes of objects of a version stand, by the classes of sets and the place of a type's cached keys
abbrev pub size_places : Option SetClasses → (cached_keys major minor : ℕ) → Option SizePlaces
size_places sets cached_keys major minor = if nat_eq major 3 then places_of_3 sets cached_keys minor else None
