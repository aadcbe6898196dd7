-- What a sound layout says of the fields of objects, dicts, the lock and a runtime record.
use Rattle.std.proofs.Common.{◌≡◌, ℕ, ◌+◌, ◌<◌, ◌≤◌, ◌^◌, Some}
use Rattle.py_fields.proofs.Fields.{optional_end, some_is}
use Rattle.py_fields.specs.Places.{bytes_places, tuple_places, list_places, object_places, klass_places, long_places}
use Rattle.py_fields.specs.Places.{value_places, dict_places, keys_places, heap_places, gil_places, offsets_places}
use Rattle.py_fields.specs.Sound.{IsRecord, IsSound, IsSoundKeys, IsSoundHeap}
use Rattle.py_fields.specs.declared.layout.BytesAt.{BytesAt}
use Rattle.py_fields.specs.declared.layout.TupleAt.{TupleAt}
use Rattle.py_fields.specs.declared.layout.ListAt.{ListAt}
use Rattle.py_fields.specs.declared.layout.ObjectAt.{ObjectAt}
use Rattle.py_fields.specs.declared.layout.KlassAt.{KlassAt}
use Rattle.py_fields.specs.declared.layout.LongAt.{LongAt}
use Rattle.py_fields.specs.declared.layout.ValueAt.{ValueAt}
use Rattle.py_fields.specs.declared.layout.DictAt.{DictAt}
use Rattle.py_fields.specs.declared.layout.KeysAt.{KeysAt}
use Rattle.py_fields.specs.declared.layout.HeapAt.{HeapAt}
use Rattle.py_fields.specs.declared.layout.GilAt.{GilAt}
use Rattle.py_fields.specs.declared.layout.OffsetsAt.{OffsetsAt}
use Rattle.py_fields.specs.declared.layout.Layout.{Layout}

pub record BytesFits (b : BytesAt) : Type 0 where
  pub positive : 0 < b.size
  pub short : b.size < 2 ^ 16
  pub length : b.length + 8 ≤ b.size
  pub at : b.at < 2 ^ 20
  pub at_behind : b.length + 8 ≤ b.at

pub bytes_fits : {l : Layout} → IsSound l → BytesFits l.bytes
unfolding bytes_places
bytes_fits {l} s =
    let inside = s.objects.bytes.fields.group.inside in
    record {
      positive = s.objects.bytes.fields.positive;
      short = s.objects.bytes.fields.short;
      length = inside.0;
      at = s.objects.bytes.at.plain;
      at_behind = s.objects.bytes.at.behind.0;
    }

pub record TupleFits (t : TupleAt) : Type 0 where
  pub positive : 0 < t.size
  pub short : t.size < 2 ^ 16
  pub count : t.count + 8 ≤ t.size
  pub at : t.at < 2 ^ 20
  pub at_behind : t.count + 8 ≤ t.at

pub tuple_fits : {l : Layout} → IsSound l → TupleFits l.tuple
unfolding tuple_places
tuple_fits {l} s =
    let inside = s.objects.tuple.fields.group.inside in
    record {
      positive = s.objects.tuple.fields.positive;
      short = s.objects.tuple.fields.short;
      count = inside.0;
      at = s.objects.tuple.at.plain;
      at_behind = s.objects.tuple.at.behind.0;
    }

pub record ListFits (x : ListAt) : Type 0 where
  pub positive : 0 < x.size
  pub short : x.size < 2 ^ 16
  pub count : x.count + 8 ≤ x.size
  pub items : x.items + 8 ≤ x.size

pub list_fits : {l : Layout} → IsSound l → ListFits l.list
unfolding list_places
list_fits {l} s =
    let inside = s.objects.list.group.inside in
    record {
      positive = s.objects.list.positive;
      short = s.objects.list.short;
      count = inside.0;
      items = inside.1.0;
    }

pub record ObjectFits (o : ObjectAt) : Type 0 where
  pub positive : 0 < o.size
  pub short : o.size < 2 ^ 16
  pub klass : o.klass + 8 ≤ o.size

pub object_fits : {l : Layout} → IsSound l → ObjectFits l.object
unfolding object_places
object_fits {l} s =
    let inside = s.objects.object.group.inside in
    record {
      positive = s.objects.object.positive;
      short = s.objects.object.short;
      klass = inside.0;
    }

pub record KlassFits (k : KlassAt) : Type 0 where
  pub positive : 0 < k.size
  pub short : k.size < 2 ^ 16
  pub name : k.name + 8 ≤ k.size
  pub flags : k.flags + 8 ≤ k.size
  pub dict_offset : k.dict_offset + 8 ≤ k.size

pub klass_fits : {l : Layout} → IsSound l → KlassFits l.klass
unfolding klass_places
klass_fits {l} s =
    let inside = s.objects.klass.group.inside in
    record {
      positive = s.objects.klass.positive;
      short = s.objects.klass.short;
      name = inside.0;
      flags = inside.1.0;
      dict_offset = inside.1.1.0;
    }

pub record LongFits (x : LongAt) : Type 0 where
  pub positive : 0 < x.size
  pub short : x.size < 2 ^ 16
  pub count : x.count + 8 ≤ x.size
  pub digits : x.digits + 4 ≤ x.size
  pub digits_behind : x.count + 8 ≤ x.digits

pub long_fits : {l : Layout} → IsSound l → LongFits l.long
unfolding long_places
long_fits {l} s =
    let inside = s.objects.long.fields.group.inside in
    record {
      positive = s.objects.long.fields.positive;
      short = s.objects.long.fields.short;
      count = inside.0;
      digits = inside.1.0;
      digits_behind = s.objects.long.behind;
    }

pub record ValueFits (v : ValueAt) : Type 0 where
  pub positive : 0 < v.size
  pub short : v.size < 2 ^ 16
  pub value : v.value + 8 ≤ v.size

pub small_fits : {l : Layout} → IsSound l → ValueFits l.small
unfolding value_places
small_fits {l} s =
    let inside = s.objects.small.group.inside in
    record {
      positive = s.objects.small.positive;
      short = s.objects.small.short;
      value = inside.0;
    }

pub float_fits : {l : Layout} → IsSound l → ValueFits l.float
unfolding value_places
float_fits {l} s =
    let inside = s.objects.float.group.inside in
    record {
      positive = s.objects.float.positive;
      short = s.objects.float.short;
      value = inside.0;
    }

pub record DictFits (d : DictAt) : Type 0 where
  pub positive : 0 < d.size
  pub short : d.size < 2 ^ 16
  pub keys : d.keys + 8 ≤ d.size
  pub values : d.values + 8 ≤ d.size

pub dict_fits : {l : Layout} → IsSound l → (d : DictAt) → l.dict ≡ Some d → DictFits d
unfolding dict_places
dict_fits {l} s d e =
    let sound = some_is l.dict (λ (x : DictAt). IsRecord x.size (dict_places x)) d s.groups.dict e in
    let inside = sound.group.inside in
    record {
      positive = sound.positive;
      short = sound.short;
      keys = inside.0;
      values = inside.1.0;
    }

pub record KeysFits (k : KeysAt) : Type 0 where
  pub positive : 0 < k.size
  pub short : k.size < 2 ^ 16
  pub used : k.used + 8 ≤ k.size
  pub slots : (at : ℕ) → k.slots ≡ Some at → at + 8 ≤ k.size
  pub log2 : (at : ℕ) → k.log2 ≡ Some at → at + 1 ≤ k.size
  pub kind : (at : ℕ) → k.kind ≡ Some at → at + 1 ≤ k.size

pub keys_fits : {l : Layout} → IsSound l → (k : KeysAt) → l.keys ≡ Some k → KeysFits k
unfolding keys_places
keys_fits {l} s k e =
    let sound = some_is l.keys (IsSoundKeys l.dicts) k s.groups.keys e in
    let inside = sound.fields.group.inside in
    record {
      positive = sound.fields.positive;
      short = sound.fields.short;
      used = inside.0;
      slots = λ at e. optional_end k.slots 8 k.size at inside.1.0 e;
      log2 = λ at e. optional_end k.log2 1 k.size at inside.1.1.0 e;
      kind = λ at e. optional_end k.kind 1 k.size at inside.1.1.1.0 e;
    }

pub record HeapFits (h : HeapAt) : Type 0 where
  pub positive : 0 < h.size
  pub short : h.size < 2 ^ 16
  pub cached_keys : h.cached_keys + 8 ≤ h.size
  pub inline : h.inline < 2 ^ 20

pub heap_fits : {l : Layout} → IsSound l → (h : HeapAt) → l.heap ≡ Some h → HeapFits h
unfolding heap_places
heap_fits {l} s h e =
    let sound = some_is l.heap IsSoundHeap h s.groups.heap e in
    let inside = sound.fields.group.inside in
    record {
      positive = sound.fields.positive;
      short = sound.fields.short;
      cached_keys = inside.0;
      inline = sound.inline;
    }

pub record GilFits (g : GilAt) : Type 0 where
  pub positive : 0 < g.size
  pub short : g.size < 2 ^ 16
  pub locked : g.locked + 4 ≤ g.size
  pub holder : g.holder + 8 ≤ g.size

pub gil_fits : {l : Layout} → IsSound l → (g : GilAt) → l.gil ≡ Some g → GilFits g
unfolding gil_places
gil_fits {l} s g e =
    let sound = some_is l.gil (λ (x : GilAt). IsRecord x.size (gil_places x)) g s.groups.gil e in
    let inside = sound.group.inside in
    record {
      positive = sound.positive;
      short = sound.short;
      locked = inside.0;
      holder = inside.1.0;
    }

pub record OffsetsFits (o : OffsetsAt) : Type 0 where
  pub positive : 0 < o.size
  pub short : o.size < 2 ^ 16
  pub head : o.head + 8 ≤ o.size

pub offsets_fits : {l : Layout} → IsSound l → (o : OffsetsAt) → l.offsets ≡ Some o → OffsetsFits o
unfolding offsets_places
offsets_fits {l} s o e =
    let sound = some_is l.offsets (λ (x : OffsetsAt). IsRecord x.size (offsets_places x)) o s.groups.offsets e in
    let inside = sound.group.inside in
    record {
      positive = sound.positive;
      short = sound.short;
      head = inside.0;
    }
