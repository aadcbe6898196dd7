-- Types, and what describes the attributes of their objects; when the groups of these are sound, and what a
-- table says of them. From the structs of CPython that the groups' docs name; the form of the file is this
-- project's own.
use Rattle.std.specs.Prelude.{Bool, List, [], ◌∷◌, None, IfSome, is_some, option_map, codes}
use Rattle.std.specs.Option.{option_or}
use Rattle.toml.specs.Data.{Members}
use Rattle.py_layout.specs.Values.{group_at, number_at}
use Rattle.py_fields.specs.Places.{Place}
use Rattle.py_fields.specs.Sound.{IsRecord}
use Rattle.py_records.specs.Places.{ArePlain, any_both}
use Rattle.py_records.specs.declared.types.KlassRecord.{KlassRecord}
use Rattle.py_records.specs.declared.types.HeapTypeRecord.{HeapTypeRecord}
use Rattle.py_records.specs.declared.types.SlotsRecord.{SlotsRecord}
use Rattle.py_records.specs.declared.types.MemberRecord.{MemberRecord}
use Rattle.py_records.specs.declared.types.InstanceSplitRecord.{InstanceSplitRecord}
use Rattle.py_records.specs.declared.types.InstanceTaggedRecord.{InstanceTaggedRecord}
use Rattle.py_records.specs.declared.types.InstanceInlineRecord.{InstanceInlineRecord}
use Rattle.py_records.specs.declared.types.ValuesRecord.{ValuesRecord}
use Rattle.py_records.specs.declared.types.ValuesBeforeRecord.{ValuesBeforeRecord}
use Rattle.py_records.specs.declared.types.TypeRecords.{TypeRecords}

-- offsets and widths, in bytes, in a `PyTypeObject`: `tp_basicsize`, `tp_itemsize`, `tp_flags` and the like
unfoldable pub klass_places : KlassRecord → List Place
klass_places r = (r.basicsize, 8) ∷ (r.itemsize, 8) ∷ (r.to_repr, 8) ∷ (r.to_str, 8) ∷ (r.flags, 8) ∷ (r.weaklist, 8)
    ∷ (r.methods, 8) ∷ (r.members, 8) ∷ (r.getset, 8) ∷ (r.base, 8) ∷ (r.dict, 8) ∷ (r.dictoffset, 8) ∷ (r.bases, 8)
    ∷ (r.mro, 8) ∷ []

-- a `PyTypeObject`: its fields stand inside its size, of 1 to 65535 bytes, and no two meet
abbrev pub IsSoundKlass : KlassRecord → Type 0
IsSoundKlass r = IsRecord r.size (klass_places r)

-- offsets and widths, in bytes, in a `PyHeapTypeObject`: `ht_qualname`, `ht_cached_keys`
unfoldable pub heap_type_places : HeapTypeRecord → List Place
heap_type_places r = (r.qualname, 8) ∷ (r.cached_keys, 8) ∷ []

-- a `PyHeapTypeObject`: its fields stand inside its size, of 1 to 65535 bytes, and no two meet
abbrev pub IsSoundHeapType : HeapTypeRecord → Type 0
IsSoundHeapType r = IsRecord r.size (heap_type_places r)

-- offsets and widths, in bytes, in a `PyMemberDescrObject`: `d_type`, `d_name`, `d_member`
unfoldable pub slots_places : SlotsRecord → List Place
slots_places r = (r.owner, 8) ∷ (r.name, 8) ∷ (r.member, 8) ∷ []

-- a `PyMemberDescrObject`: its fields stand inside its size, of 1 to 65535 bytes, and no two meet
abbrev pub IsSoundSlots : SlotsRecord → Type 0
IsSoundSlots r = IsRecord r.size (slots_places r)

-- offsets and widths, in bytes, in a `PyMemberDef`: `name`, `type`, `offset`
unfoldable pub member_places : MemberRecord → List Place
member_places r = (r.name, 8) ∷ (r.kind, 4) ∷ (r.offset, 8) ∷ []

-- a `PyMemberDef`: its fields stand inside its size, of 1 to 65535 bytes, and no two meet
abbrev pub IsSoundMember : MemberRecord → Type 0
IsSoundMember r = IsRecord r.size (member_places r)

-- the distances of dict and values before an object of 3.11, and the flag's bit, are below 2^20
abbrev pub IsSoundInstanceSplit : InstanceSplitRecord → Type 0
IsSoundInstanceSplit r = ArePlain (r.dict ∷ r.values ∷ r.managed_bit ∷ [])

-- the distance of the word before an object of 3.12, what is added to it, and the flags' bits are below 2^20
abbrev pub IsSoundInstanceTagged : InstanceTaggedRecord → Type 0
IsSoundInstanceTagged r = ArePlain (r.word ∷ r.tag ∷ r.managed_bit ∷ r.weakref_bit ∷ [])

-- the distance of the dict before an object of 3.13, and the flags' bits, are below 2^20
abbrev pub IsSoundInstanceInline : InstanceInlineRecord → Type 0
IsSoundInstanceInline r = ArePlain (r.dict ∷ r.managed_bit ∷ r.weakref_bit ∷ r.inline_bit ∷ [])

-- offsets and widths, in bytes, in a `PyDictValues`: `capacity`, `size`, `embedded`, `valid`; where `values` begin
unfoldable pub values_places : ValuesRecord → List Place
values_places r = (r.capacity, 1) ∷ (r.used, 1) ∷ (r.embedded, 1) ∷ (r.valid, 1) ∷ (r.items, 0) ∷ []

-- a `PyDictValues`: its fields stand inside its size, of 1 to 65535 bytes, and no two meet
abbrev pub IsSoundValues : ValuesRecord → Type 0
IsSoundValues r = IsRecord r.size (values_places r)

-- the distances of both bytes before the values are below 2^20
abbrev pub IsSoundValuesBefore : ValuesBeforeRecord → Type 0
IsSoundValuesBefore r = ArePlain (r.prefix ∷ r.used ∷ [])

-- each group of types, and of where instances have their attributes, that is there is sound
pub record AreSoundTypes (r : TypeRecords) : Type 0 where
  pub klass : IfSome r.klass IsSoundKlass
  pub heap_type : IfSome r.heap_type IsSoundHeapType
  pub slots : IfSome r.slots IsSoundSlots
  pub member : IfSome r.member IsSoundMember
  pub instance_split : IfSome r.instance_split IsSoundInstanceSplit
  pub instance_tagged : IfSome r.instance_tagged IsSoundInstanceTagged
  pub instance_inline : IfSome r.instance_inline IsSoundInstanceInline
  pub values : IfSome r.values IsSoundValues
  pub values_before : IfSome r.values_before IsSoundValuesBefore

-- the group `type`: size and field offsets of a `PyTypeObject` (Include/object.h)
abbrev pub klass_in : Members → KlassRecord
klass_in ms = record {
  size = number_at ms None (codes "size");
  basicsize = number_at ms None (codes "basicsize");
  itemsize = number_at ms None (codes "itemsize");
  to_repr = number_at ms None (codes "repr");
  to_str = number_at ms None (codes "str");
  flags = number_at ms None (codes "flags");
  weaklist = number_at ms None (codes "weaklist");
  methods = number_at ms None (codes "methods");
  members = number_at ms None (codes "members");
  getset = number_at ms None (codes "getset");
  base = number_at ms None (codes "base");
  dict = number_at ms None (codes "dict");
  dictoffset = number_at ms None (codes "dictoffset");
  bases = number_at ms None (codes "bases");
  mro = number_at ms None (codes "mro");
}

-- the group `heap_type`: size and field offsets of a `PyHeapTypeObject` (Include/object.h)
abbrev pub heap_type_in : Members → HeapTypeRecord
heap_type_in ms = record {
  size = number_at ms None (codes "size");
  qualname = number_at ms None (codes "qualname");
  cached_keys = number_at ms None (codes "cached_keys");
}

-- the group `slots`: size and field offsets of a `PyMemberDescrObject` (Include/descrobject.h)
abbrev pub slots_in : Members → SlotsRecord
slots_in ms = record {
  size = number_at ms None (codes "size");
  owner = number_at ms None (codes "owner");
  name = number_at ms None (codes "name");
  member = number_at ms None (codes "member");
}

-- the group `member`: size and field offsets of a `PyMemberDef` (Include/structmember.h)
abbrev pub member_in : Members → MemberRecord
member_in ms = record {
  size = number_at ms None (codes "size");
  name = number_at ms None (codes "name");
  kind = number_at ms None (codes "kind");
  offset = number_at ms None (codes "offset");
}

-- the group `instance_split`, of 3.11: how many bytes before an object its dict and values stand, and a flag's bit
abbrev pub instance_split_in : Members → InstanceSplitRecord
instance_split_in ms = record {
  dict = number_at ms None (codes "dict");
  values = number_at ms None (codes "values");
  managed_bit = number_at ms None (codes "managed_bit");
}

-- the group `instance_tagged`, of 3.12: the word before an object for its dict or values, its tag, and flags' bits
abbrev pub instance_tagged_in : Members → InstanceTaggedRecord
instance_tagged_in ms = record {
  word = number_at ms None (codes "word");
  tag = number_at ms None (codes "tag");
  managed_bit = number_at ms None (codes "managed_bit");
  weakref_bit = number_at ms None (codes "weakref_bit");
}

-- the group `instance_inline`, of 3.13: how many bytes before an object its dict stands, and flags' bits
abbrev pub instance_inline_in : Members → InstanceInlineRecord
instance_inline_in ms = record {
  dict = number_at ms None (codes "dict");
  managed_bit = number_at ms None (codes "managed_bit");
  weakref_bit = number_at ms None (codes "weakref_bit");
  inline_bit = number_at ms None (codes "inline_bit");
}

-- the group `values`: size and field offsets of a `PyDictValues` (Include/internal/pycore_dict.h)
abbrev pub values_in : Members → ValuesRecord
values_in ms = record {
  size = number_at ms None (codes "size");
  capacity = number_at ms None (codes "capacity");
  used = number_at ms None (codes "used");
  embedded = number_at ms None (codes "embedded");
  valid = number_at ms None (codes "valid");
  items = number_at ms None (codes "items");
}

-- the group `values_before`: how many bytes before values the prefix's length and the number in use stand
abbrev pub values_before_in : Members → ValuesBeforeRecord
values_before_in ms = record {
  prefix = number_at ms None (codes "prefix");
  used = number_at ms None (codes "used");
}

-- the groups of types, and of where instances have their attributes, that a table has
unfoldable pub types_from : Members → TypeRecords
types_from ms = record {
  klass = option_map klass_in (group_at ms (codes "type"));
  heap_type = option_map heap_type_in (group_at ms (codes "heap_type"));
  slots = option_map slots_in (group_at ms (codes "slots"));
  member = option_map member_in (group_at ms (codes "member"));
  instance_split = option_map instance_split_in (group_at ms (codes "instance_split"));
  instance_tagged = option_map instance_tagged_in (group_at ms (codes "instance_tagged"));
  instance_inline = option_map instance_inline_in (group_at ms (codes "instance_inline"));
  values = option_map values_in (group_at ms (codes "values"));
  values_before = option_map values_before_in (group_at ms (codes "values_before"));
}

-- no group is there
abbrev pub no_types : TypeRecords
no_types = record {
  klass = None;
  heap_type = None;
  slots = None;
  member = None;
  instance_split = None;
  instance_tagged = None;
  instance_inline = None;
  values = None;
  values_before = None;
}

-- each group of the first that is there, and else of the second
unfoldable pub joined_types : TypeRecords → TypeRecords → TypeRecords
joined_types a b = record {
  klass = option_or a.klass b.klass;
  heap_type = option_or a.heap_type b.heap_type;
  slots = option_or a.slots b.slots;
  member = option_or a.member b.member;
  instance_split = option_or a.instance_split b.instance_split;
  instance_tagged = option_or a.instance_tagged b.instance_tagged;
  instance_inline = option_or a.instance_inline b.instance_inline;
  values = option_or a.values b.values;
  values_before = option_or a.values_before b.values_before;
}

-- whether a group is there in both
unfoldable pub share_types : TypeRecords → TypeRecords → Bool
share_types a b = any_both (is_some a.klass ∷ is_some a.heap_type ∷ is_some a.slots ∷ is_some a.member
    ∷ is_some a.instance_split ∷ is_some a.instance_tagged ∷ is_some a.instance_inline ∷ is_some a.values
    ∷ is_some a.values_before ∷ [])
    (is_some b.klass ∷ is_some b.heap_type ∷ is_some b.slots ∷ is_some b.member ∷ is_some b.instance_split
    ∷ is_some b.instance_tagged ∷ is_some b.instance_inline ∷ is_some b.values ∷ is_some b.values_before ∷ [])
