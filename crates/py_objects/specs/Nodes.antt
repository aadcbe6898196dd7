-- What the values of a process's memory are, and their parts. Which fields they have is CPython's to say, and
-- where they are the layout's.
use Rattle.std.specs.Prelude.{ℕ, ◌+◌, List, Result, Ok, Err, codes, string_bytes, String, encode_utf8_all}
use Rattle.std.specs.Global.{Global}
use Rattle.elf64_core.specs.Fields.{u64_in}
use Rattle.process_memory.specs.Memory.{Memory, Found, ◌>>=◌, record_at}
use Rattle.process_memory.specs.Memory.Fault.{BadType}
use Rattle.py_fields.specs.declared.layout.Dicts.{Dicts}
use Rattle.py_fields.specs.declared.layout.Dicts.TheVariants.{Absent, General, Compact}
use Rattle.py_fields.specs.declared.layout.Layout.{Layout}
use Rattle.py_builtins.specs.declared.keys.Slots.{Slots as SlotsOf}
use Rattle.py_builtins.specs.declared.dicts.Slot.{Slot}
use Rattle.py_builtins.specs.declared.dicts.Slot.TheVariants.{Empty as EmptySlot, Entry as EntrySlot}
use Rattle.py_builtins.specs.declared.items.Items.{Items as ItemsOf}
use Rattle.py_builtins.specs.declared.items.Sequence.{Sequence}
use Rattle.py_builtins.specs.declared.items.Sequence.TheVariants.{List as ListItems, Tuple as TupleItems}
use Rattle.py_builtins.specs.Dicts.{dict_slots, slot_at}
use Rattle.py_builtins.specs.Integers.{small_at, long_at}
use Rattle.py_builtins.specs.Items.{item_at, items_at}
use Rattle.py_builtins.specs.Texts.{text_at}
use Rattle.py_builtins.specs.Types.{type_at}
use Rattle.py_objects.specs.declared.kinds.Scalar.{Scalar}
use Rattle.py_objects.specs.declared.kinds.Kind.{Kind}
use Rattle.py_objects.specs.declared.kinds.Kind.TheVariants.{Small, Long, Text, Dict, List as ListKind, Tuple, Float}
use Rattle.py_objects.specs.declared.kinds.Kind.TheVariants.{Nothing, Number, Other}
use Rattle.py_objects.specs.declared.nodes.Parts.{Parts}
use Rattle.py_objects.specs.declared.nodes.Parts.TheVariants.{Items as ItemParts, Slots as SlotParts}
use Rattle.py_objects.specs.declared.nodes.Node.{Node as NodeRead}
use Rattle.py_objects.specs.declared.nodes.Node.TheVariants.{Whole as WholeRead, Quoted as QuotedRead, Many as ManyRead}
use Rattle.py_objects.specs.declared.nodes.Child.{Child as ChildRead}
use Rattle.py_objects.specs.declared.nodes.Child.TheVariants.{Item as ItemRead, Slot as SlotRead}
use Rattle.py_objects.specs.Kinds.{kind_of, scalar_width}
use Rattle.py_objects.specs.ShownTexts.{before_nul, text_or, number_text, long_text, float_text, scalar_text}
use Rattle.py_objects.specs.ShownTexts.{other_text}
use Rattle.py_objects.specs.Shows.{Brackets, Node, Child, Source}
use Rattle.py_objects.specs.Shows.Brackets.{Square, Round, Curly}
use Rattle.py_objects.specs.Shows.Node.{Whole, Quoted, Many}
use Rattle.py_objects.specs.Shows.Child.{Item, Empty, Entry}

-- where the parts of a value stand: the items of a list or a tuple, or the slots of a dict
pub data PartsPlace : Type 0 where
  ItemsAt : ItemsOf → PartsPlace
  SlotsAt : SlotsOf → PartsPlace

-- the flags and the name of the type of the value at an address
unfoldable pub class_at : Layout → Memory → ℕ → Found (ℕ × List ℕ)
class_at l m a = do
  class ← type_at l m a
  chars ← record_at m class.name 128
  name ← text_or (before_nul chars) BadType
  Ok (class.flags, name)

-- what an integer of Python 2 of 8 bytes shows as
unfoldable pub small_node : Layout → Memory → ℕ → List ℕ → Found (Node PartsPlace)
small_node l m a name = do
  z ← small_at l m a
  Ok (Whole (number_text name z))

-- what an integer of any size shows as
unfoldable pub long_node : Layout → Memory → ℕ → List ℕ → Found (Node PartsPlace)
long_node l m a name = do
  number ← long_at l m a
  Ok (Whole (long_text name number))

-- what a text shows as: its characters in UTF-8, quoted
unfoldable pub text_node : Layout → Memory → ℕ → Found (Node PartsPlace)
text_node l m a = do
  text ← text_at l m a
  Ok (Quoted (encode_utf8_all text))

-- the brackets of a list or a tuple
abbrev pub brackets_by : Sequence → Brackets
brackets_by ListItems = Square
brackets_by TupleItems = Round

-- what a list or a tuple shows as: its items in brackets
unfoldable pub items_node : Layout → Memory → Sequence → ℕ → Found (Node PartsPlace)
items_node l m s a = do
  items ← items_at l m s a
  Ok (Many (brackets_by s) items.count (ItemsAt items))

-- what a dict shows as: its entries in braces
unfoldable pub slots_node : Layout → Memory → ℕ → Found (Node PartsPlace)
slots_node l m a = do
  slots ← dict_slots l m a
  Ok (Many Curly slots.count (SlotsAt slots))

-- the same by the family of dicts; the word `dict` where dicts are not read
abbrev pub dict_node : Dicts → Layout → Memory → ℕ → Found (Node PartsPlace)
dict_node Absent l m a = Ok (Whole (codes "dict"))
dict_node General l m a = slots_node l m a
dict_node Compact l m a = slots_node l m a

-- what a float shows as
unfoldable pub float_node : Layout → Memory → ℕ → Found (Node PartsPlace)
float_node l m a = do
  float ← record_at m a l.float.size
  Ok (Whole (float_text 16 (u64_in float l.float.value)))

-- what one of numpy's numbers shows as; its bytes stand behind the object's head
unfoldable pub scalar_node : Layout → Memory → ℕ → Scalar → Found (Node PartsPlace)
scalar_node l m a s = do
  bytes ← record_at m (a + l.object.size) (scalar_width s)
  text ← scalar_text s bytes
  Ok (Whole text)

-- what an object of this kind shows as
abbrev pub kind_node : Layout → Memory → ℕ → List ℕ → Kind → Found (Node PartsPlace)
kind_node l m a name Small = small_node l m a name
kind_node l m a name Long = long_node l m a name
kind_node l m a name Text = text_node l m a
kind_node l m a name Dict = dict_node l.dicts l m a
kind_node l m a name ListKind = items_node l m ListItems a
kind_node l m a name Tuple = items_node l m TupleItems a
kind_node l m a name Float = float_node l m a
kind_node l m a name Nothing = Ok (Whole (codes "None"))
kind_node l m a name (Number s) = scalar_node l m a s
kind_node l m a name Other = Ok (Whole (other_text name a))

-- what the value at an address is: its text, or how many parts it has and where they stand
unfoldable pub node_at : Layout → Memory → ℕ → Found (Node PartsPlace)
node_at l m a = do
  class ← class_at l m a
  kind_node l m a class.1 (kind_of l.bytes_text class.0 class.1)

-- a slot of a dict as a part of what is shown
abbrev pub child_of : Slot → Child ℕ
child_of EmptySlot = Empty
child_of (EntrySlot key value) = Entry key value

-- the part of a number at a place
unfoldable pub child_at : Memory → PartsPlace → ℕ → Found (Child ℕ)
child_at m (ItemsAt items) k = do
  item ← item_at m items k
  Ok (Item item)
child_at m (SlotsAt slots) k = do
  slot ← slot_at m slots k
  Ok (child_of slot)

-- the values of a memory
abbrev pub values_in : Layout → Memory → Source ℕ PartsPlace
values_in l m = record { node = node_at l m; child = child_at m }

-- what was read of a value
abbrev pub brackets_of : Parts → Brackets
brackets_of (ItemParts sequence items) = brackets_by sequence
brackets_of (SlotParts cursor) = Curly

-- where the parts of a container stand
abbrev pub parts_place_of : Parts → PartsPlace
parts_place_of (ItemParts sequence items) = ItemsAt items
parts_place_of (SlotParts cursor) = SlotsAt cursor.slots

-- what was read of an object, with its bytes
abbrev pub node_of : NodeRead → Node PartsPlace
node_of (WholeRead text) = Whole (string_bytes text)
node_of (QuotedRead text) = Quoted (encode_utf8_all text)
node_of (ManyRead count parts) = Many (brackets_of parts) count (parts_place_of parts)

-- a result with what was read of an object
abbrev pub nodes_of : {E : Type 0} → Result NodeRead E → Result (Node PartsPlace) E
nodes_of (Ok n) = Ok (node_of n)
nodes_of (Err e) = Err e

-- a part of a container that was read
abbrev pub part_read : ChildRead → Child ℕ
part_read (ItemRead value) = Item value
part_read (SlotRead slot) = child_of slot

-- a result with a part of a container
abbrev pub parts_read : {E : Type 0} → Result ChildRead E → Result (Child ℕ) E
parts_read (Ok c) = Ok (part_read c)
parts_read (Err e) = Err e

-- a result with a class's flags and the bytes of its name
abbrev pub class_of : {E : Type 0} → Result (ℕ × String Global) E → Result (ℕ × List ℕ) E
class_of (Ok p) = Ok (p.0, string_bytes p.1)
class_of (Err e) = Err e

-- how many visits it takes to look at a part
abbrev pub slot_visits : Parts → ℕ
slot_visits (ItemParts sequence items) = 0
slot_visits (SlotParts cursor) = 1

-- whether a part has a text
abbrev pub texts_of : Child ℕ → ℕ
texts_of (Item value) = 1
texts_of Empty = 0
texts_of (Entry key value) = 1
