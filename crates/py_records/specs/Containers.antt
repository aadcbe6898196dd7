-- Sets, lists, dicts and deques; when the groups of these are sound, and what a table says of them. From the
-- structs of CPython that the groups' docs name; the form of the file is this project's own.
use Rattle.std.specs.Prelude.{Bool, List, [], ◌∷◌, None, IfSome, is_some, option_map, codes}
use Rattle.std.specs.Option.{option_or}
use Rattle.toml.specs.Data.{Members}
use Rattle.py_layout.specs.Values.{group_at, number_at}
use Rattle.py_fields.specs.Places.{Place}
use Rattle.py_fields.specs.Sound.{IsRecord}
use Rattle.py_records.specs.Places.{ArePlain, any_both}
use Rattle.py_records.specs.declared.containers.SetRecord.{SetRecord}
use Rattle.py_records.specs.declared.containers.SetEntryRecord.{SetEntryRecord}
use Rattle.py_records.specs.declared.containers.ListRecord.{ListRecord}
use Rattle.py_records.specs.declared.containers.DictRecord.{DictRecord}
use Rattle.py_records.specs.declared.containers.KeysRecord.{KeysRecord}
use Rattle.py_records.specs.declared.containers.KeysLog2Record.{KeysLog2Record}
use Rattle.py_records.specs.declared.containers.OrderedDictRecord.{OrderedDictRecord}
use Rattle.py_records.specs.declared.containers.OrderedNodeRecord.{OrderedNodeRecord}
use Rattle.py_records.specs.declared.containers.DefaultDictRecord.{DefaultDictRecord}
use Rattle.py_records.specs.declared.containers.DequeRecord.{DequeRecord}
use Rattle.py_records.specs.declared.containers.DequeBlockRecord.{DequeBlockRecord}
use Rattle.py_records.specs.declared.containers.ContainerRecords.{ContainerRecords}

-- offsets and widths, in bytes, in a `PySetObject`: `used`, `mask`, `table`; `smalltable`, where it begins
unfoldable pub set_places : SetRecord → List Place
set_places r = (r.used, 8) ∷ (r.mask, 8) ∷ (r.table, 8) ∷ (r.small_table, 0) ∷ []

-- a `PySetObject`: its fields stand inside its size, of 1 to 65535 bytes, and no two meet
abbrev pub IsSoundSet : SetRecord → Type 0
IsSoundSet r = IsRecord r.size (set_places r)

-- offsets and widths, in bytes, in a `setentry`: `key`, `hash`
unfoldable pub set_entry_places : SetEntryRecord → List Place
set_entry_places r = (r.key, 8) ∷ (r.hash, 8) ∷ []

-- a `setentry`: its fields stand inside its size, of 1 to 65535 bytes, and no two meet
abbrev pub IsSoundSetEntry : SetEntryRecord → Type 0
IsSoundSetEntry r = IsRecord r.size (set_entry_places r)

-- offset and width, in bytes, of `allocated` in a `PyListObject`
unfoldable pub list_places : ListRecord → List Place
list_places r = (r.allocated, 8) ∷ []

-- a `PyListObject`: its field stands inside its size, of 1 to 65535 bytes
abbrev pub IsSoundList : ListRecord → Type 0
IsSoundList r = IsRecord r.size (list_places r)

-- offset and width, in bytes, of `ma_used` in a `PyDictObject`
unfoldable pub dict_places : DictRecord → List Place
dict_places r = (r.used, 8) ∷ []

-- a `PyDictObject`: its field stands inside its size, of 1 to 65535 bytes
abbrev pub IsSoundDict : DictRecord → Type 0
IsSoundDict r = IsRecord r.size (dict_places r)

-- the offset of the group `keys` (`dk_usable`) is below 2^20
abbrev pub IsSoundKeys : KeysRecord → Type 0
IsSoundKeys r = ArePlain (r.usable ∷ [])

-- the offset of the group `keys_log2` (`dk_log2_size`) is below 2^20
abbrev pub IsSoundKeysLog2 : KeysLog2Record → Type 0
IsSoundKeysLog2 r = ArePlain (r.slots ∷ [])

-- offsets and widths, in bytes, in a `PyODictObject`: `od_fast_nodes`, `od_fast_nodes_size`, `od_first`, `od_last`
unfoldable pub ordered_dict_places : OrderedDictRecord → List Place
ordered_dict_places r = (r.nodes, 8) ∷ (r.nodes_size, 8) ∷ (r.first, 8) ∷ (r.last, 8) ∷ []

-- a `PyODictObject`: its fields stand inside its size, of 1 to 65535 bytes, and no two meet
abbrev pub IsSoundOrderedDict : OrderedDictRecord → Type 0
IsSoundOrderedDict r = IsRecord r.size (ordered_dict_places r)

-- offsets and widths, in bytes, in an `_odictnode`: `key`, `hash`, `next`, `prev`
unfoldable pub ordered_node_places : OrderedNodeRecord → List Place
ordered_node_places r = (r.key, 8) ∷ (r.hash, 8) ∷ (r.next, 8) ∷ (r.previous, 8) ∷ []

-- an `_odictnode`: its fields stand inside its size, of 1 to 65535 bytes, and no two meet
abbrev pub IsSoundOrderedNode : OrderedNodeRecord → Type 0
IsSoundOrderedNode r = IsRecord r.size (ordered_node_places r)

-- offset and width, in bytes, of `default_factory` in a `defdictobject`
unfoldable pub default_dict_places : DefaultDictRecord → List Place
default_dict_places r = (r.factory, 8) ∷ []

-- a `defdictobject`: its field stands inside its size, of 1 to 65535 bytes
abbrev pub IsSoundDefaultDict : DefaultDictRecord → Type 0
IsSoundDefaultDict r = IsRecord r.size (default_dict_places r)

-- offsets and widths, in bytes, in a `dequeobject`: `ob_size`, `leftblock`, `rightblock`, `leftindex`, `rightindex`
unfoldable pub deque_places : DequeRecord → List Place
deque_places r = (r.count, 8) ∷ (r.left_block, 8) ∷ (r.right_block, 8) ∷ (r.left_index, 8) ∷ (r.right_index, 8) ∷ []

-- a `dequeobject`: its fields stand inside its size, of 1 to 65535 bytes, and no two meet
abbrev pub IsSoundDeque : DequeRecord → Type 0
IsSoundDeque r = IsRecord r.size (deque_places r)

-- offsets and widths, in bytes, in a `BLOCK` of a deque: `leftlink`; `data`, where it begins; `rightlink`
unfoldable pub deque_block_places : DequeBlockRecord → List Place
deque_block_places r = (r.left, 8) ∷ (r.items, 0) ∷ (r.right, 8) ∷ []

-- a `BLOCK` of a deque: its fields stand inside its size, of 1 to 65535 bytes, and no two meet
abbrev pub IsSoundDequeBlock : DequeBlockRecord → Type 0
IsSoundDequeBlock r = IsRecord r.size (deque_block_places r)

-- each group of sets, lists, dicts and deques that is there is sound
pub record AreSoundContainers (r : ContainerRecords) : Type 0 where
  pub set : IfSome r.set IsSoundSet
  pub set_entry : IfSome r.set_entry IsSoundSetEntry
  pub list : IfSome r.list IsSoundList
  pub dict : IfSome r.dict IsSoundDict
  pub keys : IfSome r.keys IsSoundKeys
  pub keys_log2 : IfSome r.keys_log2 IsSoundKeysLog2
  pub ordered_dict : IfSome r.ordered_dict IsSoundOrderedDict
  pub ordered_node : IfSome r.ordered_node IsSoundOrderedNode
  pub default_dict : IfSome r.default_dict IsSoundDefaultDict
  pub deque : IfSome r.deque IsSoundDeque
  pub deque_block : IfSome r.deque_block IsSoundDequeBlock

-- the group `set`: size and field offsets of a `PySetObject` (Include/setobject.h)
abbrev pub set_in : Members → SetRecord
set_in ms = record {
  size = number_at ms None (codes "size");
  used = number_at ms None (codes "used");
  mask = number_at ms None (codes "mask");
  table = number_at ms None (codes "table");
  small_table = number_at ms None (codes "small_table");
}

-- the group `set_entry`: size and field offsets of a `setentry` (Include/setobject.h)
abbrev pub set_entry_in : Members → SetEntryRecord
set_entry_in ms = record {
  size = number_at ms None (codes "size");
  key = number_at ms None (codes "key");
  hash = number_at ms None (codes "hash");
}

-- the group `list`: size and the field's offset of a `PyListObject` (Include/listobject.h)
abbrev pub list_in : Members → ListRecord
list_in ms = record {
  size = number_at ms None (codes "size");
  allocated = number_at ms None (codes "allocated");
}

-- the group `dict`: size and the field's offset of a `PyDictObject` (Include/dictobject.h)
abbrev pub dict_in : Members → DictRecord
dict_in ms = record {
  size = number_at ms None (codes "size");
  used = number_at ms None (codes "used");
}

-- the group `keys`: the offset of `dk_usable` in the keys of a dict
abbrev pub keys_in : Members → KeysRecord
keys_in ms = record {
  usable = number_at ms None (codes "usable");
}

-- the group `keys_log2`: the offset of `dk_log2_size` in the keys of a dict from 3.11 on
abbrev pub keys_log2_in : Members → KeysLog2Record
keys_log2_in ms = record {
  slots = number_at ms None (codes "slots");
}

-- the group `ordered_dict`: size and field offsets of a `PyODictObject` (Objects/odictobject.c)
abbrev pub ordered_dict_in : Members → OrderedDictRecord
ordered_dict_in ms = record {
  size = number_at ms None (codes "size");
  nodes = number_at ms None (codes "nodes");
  nodes_size = number_at ms None (codes "nodes_size");
  first = number_at ms None (codes "first");
  last = number_at ms None (codes "last");
}

-- the group `ordered_node`: size and field offsets of an `_odictnode` (Objects/odictobject.c)
abbrev pub ordered_node_in : Members → OrderedNodeRecord
ordered_node_in ms = record {
  size = number_at ms None (codes "size");
  key = number_at ms None (codes "key");
  hash = number_at ms None (codes "hash");
  next = number_at ms None (codes "next");
  previous = number_at ms None (codes "previous");
}

-- the group `default_dict`: size and the field's offset of a `defdictobject` (Modules/_collectionsmodule.c)
abbrev pub default_dict_in : Members → DefaultDictRecord
default_dict_in ms = record {
  size = number_at ms None (codes "size");
  factory = number_at ms None (codes "factory");
}

-- the group `deque`: size and field offsets of a `dequeobject` (Modules/_collectionsmodule.c)
abbrev pub deque_in : Members → DequeRecord
deque_in ms = record {
  size = number_at ms None (codes "size");
  count = number_at ms None (codes "count");
  left_block = number_at ms None (codes "left_block");
  right_block = number_at ms None (codes "right_block");
  left_index = number_at ms None (codes "left_index");
  right_index = number_at ms None (codes "right_index");
}

-- the group `deque_block`: size and field offsets of a `BLOCK` of a deque (Modules/_collectionsmodule.c)
abbrev pub deque_block_in : Members → DequeBlockRecord
deque_block_in ms = record {
  size = number_at ms None (codes "size");
  left = number_at ms None (codes "left");
  items = number_at ms None (codes "items");
  right = number_at ms None (codes "right");
}

-- the groups of sets, lists, dicts and deques that a table has
unfoldable pub containers_from : Members → ContainerRecords
containers_from ms = record {
  set = option_map set_in (group_at ms (codes "set"));
  set_entry = option_map set_entry_in (group_at ms (codes "set_entry"));
  list = option_map list_in (group_at ms (codes "list"));
  dict = option_map dict_in (group_at ms (codes "dict"));
  keys = option_map keys_in (group_at ms (codes "keys"));
  keys_log2 = option_map keys_log2_in (group_at ms (codes "keys_log2"));
  ordered_dict = option_map ordered_dict_in (group_at ms (codes "ordered_dict"));
  ordered_node = option_map ordered_node_in (group_at ms (codes "ordered_node"));
  default_dict = option_map default_dict_in (group_at ms (codes "default_dict"));
  deque = option_map deque_in (group_at ms (codes "deque"));
  deque_block = option_map deque_block_in (group_at ms (codes "deque_block"));
}

-- no group is there
abbrev pub no_containers : ContainerRecords
no_containers = record {
  set = None;
  set_entry = None;
  list = None;
  dict = None;
  keys = None;
  keys_log2 = None;
  ordered_dict = None;
  ordered_node = None;
  default_dict = None;
  deque = None;
  deque_block = None;
}

-- each group of the first that is there, and else of the second
unfoldable pub joined_containers : ContainerRecords → ContainerRecords → ContainerRecords
joined_containers a b = record {
  set = option_or a.set b.set;
  set_entry = option_or a.set_entry b.set_entry;
  list = option_or a.list b.list;
  dict = option_or a.dict b.dict;
  keys = option_or a.keys b.keys;
  keys_log2 = option_or a.keys_log2 b.keys_log2;
  ordered_dict = option_or a.ordered_dict b.ordered_dict;
  ordered_node = option_or a.ordered_node b.ordered_node;
  default_dict = option_or a.default_dict b.default_dict;
  deque = option_or a.deque b.deque;
  deque_block = option_or a.deque_block b.deque_block;
}

-- whether a group is there in both
unfoldable pub share_containers : ContainerRecords → ContainerRecords → Bool
share_containers a b = any_both (is_some a.set ∷ is_some a.set_entry ∷ is_some a.list ∷ is_some a.dict
    ∷ is_some a.keys ∷ is_some a.keys_log2 ∷ is_some a.ordered_dict ∷ is_some a.ordered_node ∷ is_some a.default_dict
    ∷ is_some a.deque ∷ is_some a.deque_block ∷ [])
    (is_some b.set ∷ is_some b.set_entry ∷ is_some b.list ∷ is_some b.dict ∷ is_some b.keys ∷ is_some b.keys_log2
    ∷ is_some b.ordered_dict ∷ is_some b.ordered_node ∷ is_some b.default_dict ∷ is_some b.deque
    ∷ is_some b.deque_block ∷ [])
