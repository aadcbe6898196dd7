-- Where the fields of a layout's records are: one list of places for each record.
use Rattle.std.specs.Prelude.{ℕ, ◌+◌, ◌≤◌, ◌⊎◌, Option, Some, None, List, [], ◌∷◌, ⊤}
use Rattle.std.specs.List.{AllByRecursion}
use Rattle.py_fields.specs.declared.layout.Lasti.{Lasti}
use Rattle.py_fields.specs.declared.layout.Lasti.TheVariants.{Bytes, Units, Pointer}
use Rattle.py_fields.specs.declared.layout.InterpreterAt.{InterpreterAt}
use Rattle.py_fields.specs.declared.layout.ThreadAt.{ThreadAt}
use Rattle.py_fields.specs.declared.layout.FrameAt.{FrameAt}
use Rattle.py_fields.specs.declared.layout.CodeAt.{CodeAt}
use Rattle.py_fields.specs.declared.layout.StringAt.{StringAt}
use Rattle.py_fields.specs.declared.layout.BytesAt.{BytesAt}
use Rattle.py_fields.specs.declared.layout.TupleAt.{TupleAt}
use Rattle.py_fields.specs.declared.layout.ListAt.{ListAt}
use Rattle.py_fields.specs.declared.layout.ObjectAt.{ObjectAt}
use Rattle.py_fields.specs.declared.layout.KlassAt.{KlassAt}
use Rattle.py_fields.specs.declared.layout.LongAt.{LongAt}
use Rattle.py_fields.specs.declared.layout.ValueAt.{ValueAt}
use Rattle.py_fields.specs.declared.layout.DictAt.{DictAt}
use Rattle.py_fields.specs.declared.layout.KeysAt.{KeysAt}
use Rattle.py_fields.specs.declared.layout.HeapAt.{HeapAt}
use Rattle.py_fields.specs.declared.layout.GilAt.{GilAt}
use Rattle.py_fields.specs.declared.layout.OffsetsAt.{OffsetsAt}

-- a place: an offset, and how wide it is
abbrev pub Place : Type 0
Place = ℕ × ℕ

-- two places don't meet
abbrev pub Apart : Place → Place → Type 0
Apart p q = (p.0 + p.1 ≤ q.0) ⊎ (q.0 + q.1 ≤ p.0)

-- a place meets none of the others
abbrev pub ApartFrom : Place → List Place → Type 0
ApartFrom p places = AllByRecursion (Apart p) places

-- no two of the places meet
abbrev pub AreApart : List Place → Type 0
AreApart [] = ⊤
AreApart (p ∷ ps) = ApartFrom p ps × AreApart ps

-- each of the places ends there, or before
abbrev pub EndBy : ℕ → List Place → Type 0
EndBy end places = AllByRecursion (λ p. p.0 + p.1 ≤ end) places

-- the places lie inside `size`, and no two of them meet
pub record IsGroup (size : ℕ) (places : List Place) : Type 0 where
  pub inside : EndBy size places
  pub apart : AreApart places

-- a field that isn't there is an empty place, which is apart from all
abbrev pub optional_place : Option ℕ → ℕ → Place
optional_place None width = (0, 0)
optional_place (Some at) width = (at, width)

-- the fields of the interpreter's record, each with its width in bytes
unfoldable pub interpreter_places : InterpreterAt → List Place
interpreter_places i = (i.threads, 8) ∷ (i.modules, 8) ∷ optional_place i.gil 8 ∷ []

-- the fields of a thread's record, each with its width in bytes
unfoldable pub thread_places : ThreadAt → List Place
thread_places t = (t.next, 8) ∷ (t.interp, 8) ∷ (t.id, 8) ∷ (t.frame, 8) ∷ optional_place t.native_id 8 ∷ []

-- how wide the last instruction is: an address is, where it is one
abbrev pub instr_width : Lasti → ℕ
instr_width Bytes = 4
instr_width Units = 4
instr_width Pointer = 8

-- the fields of a frame's record, each with its width in bytes
unfoldable pub frame_places : Lasti → FrameAt → List Place
frame_places lasti f = (f.code, 8) ∷ (f.back, 8) ∷ (f.instr, instr_width lasti) ∷ optional_place f.entry 1 ∷ []

-- the fields of a code object, each with its width in bytes
unfoldable pub code_places : CodeAt → List Place
code_places c = (c.argcount, 4) ∷ (c.nlocals, 4) ∷ (c.first_line, 4) ∷ (c.filename, 8) ∷ (c.name, 8) ∷ (c.table, 8)
    ∷ (c.varnames, 8) ∷ []

-- the length and the state, behind which the characters of a text begin
unfoldable pub string_head : StringAt → List Place
string_head s = (s.length, 8) ∷ optional_place s.state 4 ∷ []

-- the fields of a text's record, each with its width in bytes
unfoldable pub string_places : StringAt → List Place
string_places s = (s.length, 8) ∷ optional_place s.state 4 ∷ optional_place s.pointer 8 ∷ []

-- the bits of a text's state: three that say how wide a character is, and two of one bit
unfoldable pub state_bits : StringAt → List Place
state_bits s = optional_place s.kind_shift 3 ∷ optional_place s.compact_bit 1 ∷ optional_place s.ascii_bit 1 ∷ []

-- the fields of a bytes object, each with its width in bytes
unfoldable pub bytes_places : BytesAt → List Place
bytes_places b = (b.length, 8) ∷ []

-- the fields of a tuple, each with its width in bytes
unfoldable pub tuple_places : TupleAt → List Place
tuple_places t = (t.count, 8) ∷ []

-- the fields of a list, each with its width in bytes
unfoldable pub list_places : ListAt → List Place
list_places l = (l.count, 8) ∷ (l.items, 8) ∷ []

-- the fields of the head of every object, each with its width in bytes
unfoldable pub object_places : ObjectAt → List Place
object_places o = (o.klass, 8) ∷ []

-- the fields of a type's record, each with its width in bytes
unfoldable pub klass_places : KlassAt → List Place
klass_places k = (k.name, 8) ∷ (k.flags, 8) ∷ (k.dict_offset, 8) ∷ []

-- the fields of an integer, each with its width in bytes
unfoldable pub long_places : LongAt → List Place
long_places l = (l.count, 8) ∷ (l.digits, 4) ∷ []

-- the field of a record with one value, with its width in bytes
unfoldable pub value_places : ValueAt → List Place
value_places v = (v.value, 8) ∷ []

-- the fields of a dict, each with its width in bytes
unfoldable pub dict_places : DictAt → List Place
dict_places d = (d.keys, 8) ∷ (d.values, 8) ∷ []

-- the fields of the keys of a dict, each with its width in bytes
unfoldable pub keys_places : KeysAt → List Place
keys_places k = (k.used, 8) ∷ optional_place k.slots 8 ∷ optional_place k.log2 1 ∷ optional_place k.kind 1 ∷ []

-- the fields of a heap type, each with its width in bytes
unfoldable pub heap_places : HeapAt → List Place
heap_places h = (h.cached_keys, 8) ∷ []

-- the fields of the interpreter lock's record, each with its width in bytes
unfoldable pub gil_places : GilAt → List Place
gil_places g = (g.locked, 4) ∷ (g.holder, 8) ∷ []

-- the fields of `_Py_DebugOffsets`, each with its width in bytes
unfoldable pub offsets_places : OffsetsAt → List Place
offsets_places o = (o.head, 8) ∷ []
