-- Sound layouts, and the versions that they cover.
use Rattle.std.specs.Prelude.{◌≡◌, ◌≢◌, ℕ, ◌+◌, ◌<◌, ◌≤◌, ◌^◌, ◌↔◌, List, IsSome, IfSome}
use Rattle.py_fields.specs.Places.{Place, IsGroup, AreApart, EndBy, interpreter_places, thread_places, frame_places}
use Rattle.py_fields.specs.Places.{code_places, string_head, string_places, state_bits, bytes_places, tuple_places}
use Rattle.py_fields.specs.Places.{list_places, object_places, klass_places, long_places, value_places, dict_places}
use Rattle.py_fields.specs.Places.{keys_places, heap_places, gil_places, offsets_places}
use Rattle.py_fields.specs.declared.layout.Head.TheVariants.{Offsets}
use Rattle.py_fields.specs.declared.layout.Lock.{Lock}
use Rattle.py_fields.specs.declared.layout.Lock.TheVariants.{Gil}
use Rattle.py_fields.specs.declared.layout.Frames.TheVariants.{Cframe}
use Rattle.py_fields.specs.declared.layout.Lasti.{Lasti}
use Rattle.py_fields.specs.declared.layout.Lasti.TheVariants.{Pointer}
use Rattle.py_fields.specs.declared.layout.Strings.{Strings}
use Rattle.py_fields.specs.declared.layout.Strings.TheVariants.{State}
use Rattle.py_fields.specs.declared.layout.Dicts.{Dicts}
use Rattle.py_fields.specs.declared.layout.Dicts.TheVariants.{Absent, General, Compact}
use Rattle.py_fields.specs.declared.layout.Managed.TheVariants.{Absent as Unmanaged}
use Rattle.py_fields.specs.declared.layout.InterpreterAt.{InterpreterAt}
use Rattle.py_fields.specs.declared.layout.FrameAt.{FrameAt}
use Rattle.py_fields.specs.declared.layout.CodeAt.{CodeAt}
use Rattle.py_fields.specs.declared.layout.StringAt.{StringAt}
use Rattle.py_fields.specs.declared.layout.LongAt.{LongAt}
use Rattle.py_fields.specs.declared.layout.KeysAt.{KeysAt}
use Rattle.py_fields.specs.declared.layout.HeapAt.{HeapAt}
use Rattle.py_fields.specs.declared.layout.Layout.{Layout}
use Rattle.py_fields.specs.declared.version.Version.{Version}

-- a number that is not bounded by a record's size
abbrev pub IsPlain : ℕ → Type 0
IsPlain n = n < 2 ^ 20

-- a record of 1 to 65535 bytes, with its fields inside it, no two of which meet
pub record IsRecord (size : ℕ) (places : List Place) : Type 0 where
  pub positive : 0 < size
  pub short : size < 2 ^ 16
  pub group : IsGroup size places

-- where what follows the fields begins: behind each of them
pub record IsStart (places : List Place) (start : ℕ) : Type 0 where
  pub plain : IsPlain start
  pub behind : EndBy start places

-- the numbers of the interpreter's record can be those of one
pub record IsSoundInterpreter (lock : Lock) (i : InterpreterAt) : Type 0 where
  pub threads : IsPlain i.threads
  pub modules : IsPlain i.modules
  pub gil : IfSome i.gil IsPlain
  pub has_gil : IsSome i.gil ↔ (lock ≡ Gil)
  pub apart : AreApart (interpreter_places i)

-- the numbers of a frame's record can be those of one
pub record IsSoundFrame (lasti : Lasti) (f : FrameAt) : Type 0 where
  pub fields : IsRecord f.size (frame_places lasti f)
  pub locals : IsStart (frame_places lasti f) f.locals
  pub code_tag_bits : f.code_tag_bits ≤ 3

-- the numbers of a code object can be those of one
pub record IsSoundCode (lasti : Lasti) (c : CodeAt) : Type 0 where
  pub fields : IsRecord c.size (code_places c)
  pub start : IfSome c.start IsPlain
  pub has_start : IsSome c.start ↔ (lasti ≡ Pointer)

-- the fields that go with a state are there exactly with one
pub record HasState (strings : Strings) (s : StringAt) : Type 0 where
  pub state : IsSome s.state ↔ (strings ≡ State)
  pub pointer : IsSome s.pointer ↔ (strings ≡ State)
  pub long_at : IsSome s.long_at ↔ (strings ≡ State)
  pub kind_shift : IsSome s.kind_shift ↔ (strings ≡ State)
  pub compact_bit : IsSome s.compact_bit ↔ (strings ≡ State)
  pub ascii_bit : IsSome s.ascii_bit ↔ (strings ≡ State)

-- the numbers of a text's record can be those of one
pub record IsSoundString (strings : Strings) (s : StringAt) : Type 0 where
  pub optional : HasState strings s
  pub fields : IsRecord s.size (string_places s)
  pub short_at : IsStart (string_head s) s.short_at
  pub long_at : IfSome s.long_at (IsStart (string_head s))
  pub bits : IsGroup 32 (state_bits s)

-- a record with items behind its fields
pub record IsSoundSequence (size : ℕ) (places : List Place) (start : ℕ) : Type 0 where
  pub fields : IsRecord size places
  pub at : IsStart places start

-- the numbers of an integer can be those of one: the digits stand behind the count
pub record IsSoundLong (l : LongAt) : Type 0 where
  pub fields : IsRecord l.size (long_places l)
  pub behind : l.count + 8 ≤ l.digits

-- the numbers of the keys of a dict can be those of some
pub record IsSoundKeys (dicts : Dicts) (k : KeysAt) : Type 0 where
  pub fields : IsRecord k.size (keys_places k)
  pub has_slots : IsSome k.slots ↔ (dicts ≡ General)
  pub has_log2 : IsSome k.log2 ↔ (dicts ≡ Compact)
  pub has_kind : IsSome k.kind ↔ (dicts ≡ Compact)

-- the numbers of a heap type can be those of one
pub record IsSoundHeap (h : HeapAt) : Type 0 where
  pub fields : IsRecord h.size (heap_places h)
  pub inline : IsPlain h.inline

-- the groups that go with a condition are there exactly under it
pub record HasGroups (l : Layout) : Type 0 where
  pub cframe : IsSome l.cframe ↔ (l.frames ≡ Cframe)
  pub dict : IsSome l.dict ↔ (l.dicts ≢ Absent)
  pub keys : IsSome l.keys ↔ (l.dicts ≢ Absent)
  pub heap : IsSome l.heap ↔ (l.managed ≢ Unmanaged)
  pub gil : IsSome l.gil ↔ (l.lock ≡ Gil)
  pub offsets : IsSome l.offsets ↔ (l.head ≡ Offsets)

-- the versions that a layout covers: one major, and a range of minors
pub record IsVersionRange (l : Layout) : Type 0 where
  pub major : l.major ≤ 999
  pub first_minor : l.first_minor ≤ 999
  pub last_minor : l.last_minor ≤ 999
  pub ordered : l.first_minor ≤ l.last_minor

-- the objects' records
pub record AreSoundObjects (l : Layout) : Type 0 where
  pub bytes : IsSoundSequence l.bytes.size (bytes_places l.bytes) l.bytes.at
  pub tuple : IsSoundSequence l.tuple.size (tuple_places l.tuple) l.tuple.at
  pub list : IsRecord l.list.size (list_places l.list)
  pub object : IsRecord l.object.size (object_places l.object)
  pub klass : IsRecord l.klass.size (klass_places l.klass)
  pub long : IsSoundLong l.long
  pub small : IsRecord l.small.size (value_places l.small)
  pub float : IsRecord l.float.size (value_places l.float)

-- the groups that go with a condition, where they are there
pub record AreSoundGroups (l : Layout) : Type 0 where
  pub cframe : IfSome l.cframe (λ c. IsPlain c.current)
  pub dict : IfSome l.dict (λ d. IsRecord d.size (dict_places d))
  pub keys : IfSome l.keys (IsSoundKeys l.dicts)
  pub heap : IfSome l.heap IsSoundHeap
  pub gil : IfSome l.gil (λ g. IsRecord g.size (gil_places g))
  pub offsets : IfSome l.offsets (λ o. IsRecord o.size (offsets_places o))

-- all numbers of a layout can be those of records: fields lie inside `size`, and no two meet
pub record IsSound (l : Layout) : Type 0 where
  pub range : IsVersionRange l
  -- an object's managed dict is a compact one
  pub managed : l.managed ≢ Unmanaged → l.dicts ≡ Compact
  pub has_groups : HasGroups l
  pub groups : AreSoundGroups l
  pub interpreter : IsSoundInterpreter l.lock l.interpreter
  pub thread : IsRecord l.thread.size (thread_places l.thread)
  pub frame : IsSoundFrame l.lasti l.frame
  pub code : IsSoundCode l.lasti l.code
  pub string : IsSoundString l.strings l.string
  pub objects : AreSoundObjects l

-- a layout covers a version by its major and minor alone
pub record Covers (l : Layout) (v : Version) : Type 0 where
  pub major : v.major ≡ l.major
  pub first : l.first_minor ≤ v.minor
  pub last : v.minor ≤ l.last_minor
