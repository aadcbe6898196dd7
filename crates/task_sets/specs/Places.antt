-- Where the parts of sets, weak references and instances stand, by a layout and the records of its version.
use Rattle.std.specs.Prelude.{ℕ, Option, Some, None, is_some, if◌then◌else◌}
use Rattle.py_fields.specs.declared.layout.Layout.{Layout}
use Rattle.py_records.specs.declared.records.Records.{Records}
use Rattle.py_records.specs.declared.types.TypeRecords.{TypeRecords}
use Rattle.py_records.specs.declared.types.KlassRecord.{KlassRecord}
use Rattle.py_records.specs.declared.types.HeapTypeRecord.{HeapTypeRecord}
use Rattle.py_records.specs.declared.containers.SetRecord.{SetRecord}
use Rattle.py_records.specs.declared.containers.SetEntryRecord.{SetEntryRecord}
use Rattle.py_records.specs.declared.callables.WeakrefRecord.{WeakrefRecord}
use Rattle.instance_dicts.specs.declared.forms.DictForm.{DictForm}
use Rattle.instance_dicts.specs.declared.forms.DictForm.TheVariants.{Pointer, ValuesAndDict, OneWord, Embedded}
use Rattle.instance_dicts.specs.declared.forms.InstanceFields.{InstanceFields}
use Rattle.task_sets.specs.declared.places.RootPlaces.{RootPlaces}
use Rattle.task_sets.specs.declared.places.SetPlaces.{SetPlaces}

-- how instances have their dicts: each form has a group of its own, and the first has none
abbrev pub form_of : TypeRecords → DictForm
form_of t =
    if is_some t.instance_inline then Embedded
    else if is_some t.instance_tagged then OneWord
    else if is_some t.instance_split then ValuesAndDict
    else Pointer

-- where the numbers of an instance stand, by the records of types
abbrev pub instance_of : Layout → KlassRecord → HeapTypeRecord → InstanceFields
instance_of l k h = record {
  basic_size = k.basicsize;
  item_size = k.itemsize;
  cached_keys = h.cached_keys;
  count = l.list.count;
}

-- where the numbers of a set and of weak references stand
abbrev pub sets_of : SetRecord → SetEntryRecord → WeakrefRecord → SetPlaces
sets_of s e w = record {
  mask = s.mask;
  table = s.table;
  step = e.size;
  key = e.key;
  hash = e.hash;
  referent = w.object;
}

-- the same, where all three records are there
abbrev pub sets_by : Option SetRecord → Option SetEntryRecord → Option WeakrefRecord → Option SetPlaces
sets_by (Some s) (Some e) (Some w) = Some (sets_of s e w)
sets_by _ _ _ = None

-- where what registers tasks stands, where all records are there
abbrev pub described_by : Layout → TypeRecords → (slots : ℕ) → Option SetPlaces → Option KlassRecord
    → Option HeapTypeRecord → Option RootPlaces
described_by l t slots (Some sets) (Some k) (Some h) =
    Some (record { slots = slots; sets = sets; instance = instance_of l k h; form = form_of t })
described_by l t slots _ _ _ = None

-- and how many entries the sets may have together
abbrev pub places_of : Layout → Records → (slots : ℕ) → Option RootPlaces
places_of l r slots = described_by l r.types slots (sets_by r.containers.set r.containers.set_entry r.callables.weakref)
    r.types.klass r.types.heap_type
