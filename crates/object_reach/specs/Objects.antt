-- What an object leads to: its parts, and the addresses that they hold. The items of lists and tuples and the keys and
-- values of dicts are what CPython's objects of these types refer to; that an object is whole or broken, and which of
-- its slots count, is this project's rule.
use Rattle.std.specs.Prelude.{◌≢◌, ℕ, zero, suc, List, [], ◌∷◌, ◌++◌, Option, Some, None, Ok, Err}
use Rattle.std.specs.List.{Contains}
use Rattle.process_memory.specs.Memory.{Memory, Found, Fault, ◌>>=◌}
use Rattle.py_fields.specs.declared.layout.Dicts.{Dicts}
use Rattle.py_fields.specs.declared.layout.Dicts.TheVariants.{Absent, General, Compact}
use Rattle.py_fields.specs.declared.layout.Layout.{Layout}
use Rattle.py_builtins.specs.declared.dicts.Slot.{Slot}
use Rattle.py_builtins.specs.declared.dicts.Slot.TheVariants.{Empty, Entry}
use Rattle.py_builtins.specs.declared.items.Items.{Items as ItemsOf}
use Rattle.py_builtins.specs.declared.items.Sequence.{Sequence}
use Rattle.py_builtins.specs.declared.keys.Slots.{Slots as SlotsOf}
use Rattle.py_builtins.specs.Dicts.{dict_slots, slot_at}
use Rattle.py_builtins.specs.Items.{items_at, item_at}
use Rattle.py_builtins.specs.Types.{type_at}
use Rattle.object_reach.specs.declared.contents.Contents.{Contents}
use Rattle.object_reach.specs.declared.contents.Contents.TheVariants.{Nothing, Slots, Items}
use Rattle.object_reach.specs.Contents.{contents_of}

-- where the parts of an object stand: nowhere, or as the items of a list or a tuple, or as the slots of a dict
pub data PartsSpot : Type 0 where
  Nowhere : PartsSpot
  ItemsAt : ItemsOf → PartsSpot
  SlotsAt : SlotsOf → PartsSpot

-- how many parts an object has, and where they stand
pub record PartsRead : Type 0 where
  pub count : ℕ
  pub place : PartsSpot

-- the items of a list or a tuple: how many, and where they stand
unfoldable pub item_parts : Layout → Memory → Sequence → ℕ → Found PartsRead
item_parts l m s a = do
  items ← items_at l m s a
  Ok (record { count = items.count; place = ItemsAt items })

-- the entries of a dict: how many slots, and where they stand
unfoldable pub slot_parts : Layout → Memory → ℕ → Found PartsRead
slot_parts l m a = do
  slots ← dict_slots l m a
  Ok (record { count = slots.count; place = SlotsAt slots })

-- the parts of an object that leads to none
abbrev pub no_parts : PartsRead
no_parts = record { count = 0; place = Nowhere }

-- a layout without dicts names no parts of theirs
abbrev pub dict_parts : Dicts → Layout → Memory → ℕ → Found PartsRead
dict_parts Absent l m a = Ok no_parts
dict_parts General l m a = slot_parts l m a
dict_parts Compact l m a = slot_parts l m a

-- the parts of an object, by what it contains
abbrev pub parts_by : Layout → Memory → ℕ → Contents → Found PartsRead
parts_by l m a Nothing = Ok no_parts
parts_by l m a Slots = dict_parts l.dicts l m a
parts_by l m a (Items s) = item_parts l m s a

-- the parts of the object at an address: its record and its type's are read, and then what the type says that it has
unfoldable pub parts_found : Layout → Memory → ℕ → Found PartsRead
parts_found l m a = do
  class ← type_at l m a
  parts_by l m a (contents_of l.bytes_text class.flags)

-- the addresses that a slot of a dict has: of its key and its value
abbrev pub slot_words : Slot → List ℕ
slot_words Empty = []
slot_words (Entry key value) = key ∷ value ∷ []

-- the words of the part of a number: an item, or the key and the value of a slot that is not empty
unfoldable pub part_words : Memory → PartsSpot → ℕ → Found (List ℕ)
part_words m Nowhere k = Ok []
part_words m (ItemsAt items) k = do
  item ← item_at m items k
  Ok (item ∷ [])
part_words m (SlotsAt slots) k = do
  slot ← slot_at m slots k
  Ok (slot_words slot)

-- the words of the first so many parts, one after another; else the first fault
unfoldable pub words_of_first : (ℕ → Found (List ℕ)) → ℕ → Found (List ℕ)
words_of_first part zero = Ok []
words_of_first part (suc n) = do
  words ← words_of_first part n
  more ← part n
  Ok (words ++ more)

-- a number where the words were found, else a smaller one
abbrev pub all_or : Found (List ℕ) → ℕ → ℕ → ℕ
all_or (Ok words) all fewer = all
all_or (Err f) all fewer = fewer

-- how many of the first so many parts stand in front of the first missing one: the most first ones that are all there
unfoldable pub parts_in_front : (ℕ → Found (List ℕ)) → ℕ → ℕ
parts_in_front part zero = 0
parts_in_front part (suc n) = all_or (words_of_first part (suc n)) (suc n) (parts_in_front part n)

-- what an object is to a search: how many slots it has in front of the first missing one, the words in all of them,
-- and its first failure. A broken object has no words
pub record Object : Type 0 where
  pub slots : ℕ
  pub words : List ℕ
  pub failure : Option Fault

-- an object of so many slots, with the addresses that it leads to, or why they can't be read
abbrev pub object_with : ℕ → Found (List ℕ) → Object
object_with n (Ok words) = record { slots = n; words = words; failure = None }
object_with n (Err f) = record { slots = n; words = []; failure = Some f }

-- the object that these parts make
abbrev pub object_of : Memory → PartsRead → Object
object_of m p =
    object_with (parts_in_front (part_words m p.place) p.count) (words_of_first (part_words m p.place) p.count)

-- an object, by its parts or why they can't be read
abbrev pub object_by : Memory → Found PartsRead → Object
object_by m (Err f) = object_with 0 (Err f)
object_by m (Ok p) = object_of m p

-- the object at an address
unfoldable pub object_at : Layout → Memory → ℕ → Object
object_at l m a = object_by m (parts_found l m a)

-- an address other than 0 that is among these words
abbrev pub IsNamed : List ℕ → ℕ → Type 0
IsNamed words address = Contains words address × (address ≢ 0)

-- the children of an object are the addresses other than 0 in its slots
abbrev pub IsChild : Object → ℕ → Type 0
IsChild object address = IsNamed object.words address
