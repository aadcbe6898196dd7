-- The ranges of memory at which the definitions of objects and stacks look, and what a reader owes that looks at these
-- alone. Which records there are is CPython's; how wide a field is that is looked at is this project's.
use Rattle.std.specs.Prelude.{◌≡◌, ℕ, ◌+◌, ◌*◌, ◌<◌, ◌^◌, ◌⊎◌, Option, Some, List, Result, Ok}
use Rattle.elf64_core.specs.Fields.{u64_in}
use Rattle.process_memory.specs.Memory.{Found, Fault, Memory, byte_at, record_at}
use Rattle.process_memory.specs.Seen.{IsRange, ReadingOf, ReadsOf, Seen}
use Rattle.process_memory.specs.declared.memory.Span.{Span}
use Rattle.py_fields.specs.declared.layout.DictAt.{DictAt}
use Rattle.py_fields.specs.declared.layout.GilAt.{GilAt}
use Rattle.py_fields.specs.declared.layout.HeapAt.{HeapAt}
use Rattle.py_fields.specs.declared.layout.KeysAt.{KeysAt}
use Rattle.py_fields.specs.declared.layout.Layout.{Layout}
use Rattle.py_builtins.specs.TextKind.{width}
use Rattle.py_builtins.specs.Texts.{characters_of}
use Rattle.py_builtins.specs.declared.strings.Characters.{Characters}

-- how many bytes a field has that is looked at alone
pub data IsWidth : ℕ → Type 0 where
  -- of a number
  One : IsWidth 1
  Two : IsWidth 2
  Four : IsWidth 4
  -- of a number, an address or the word of one
  Word : IsWidth 8
  -- of a dict's entry, and of one with a hash
  Entry : IsWidth 16
  HashedEntry : IsWidth 24
  -- of the first bytes of a type's name
  TypeName : IsWidth 128

-- how many bytes are read of a record of the layout
pub data IsRecordSize (l : Layout) : ℕ → Type 0 where
  Thread : IsRecordSize l l.thread.size
  Frame : IsRecordSize l l.frame.size
  Code : IsRecordSize l l.code.size
  Gil : (at : GilAt) → l.gil ≡ Some at → IsRecordSize l at.size
  Object : IsRecordSize l l.object.size
  Class : IsRecordSize l l.klass.size
  Heap : (at : HeapAt) → l.heap ≡ Some at → IsRecordSize l at.size
  String : IsRecordSize l l.string.size
  Bytes : IsRecordSize l l.bytes.size
  Tuple : IsRecordSize l l.tuple.size
  Sequence : IsRecordSize l l.list.size
  Long : IsRecordSize l l.long.size
  Small : IsRecordSize l l.small.size
  Float : IsRecordSize l l.float.size
  Dict : (at : DictAt) → l.dict ≡ Some at → IsRecordSize l at.size
  Keys : (at : KeysAt) → l.keys ≡ Some at → IsRecordSize l at.size

-- exactly the characters of a text, as its record says how many units they have and where they stand
pub record AreCharacters (l : Layout) (m : Memory) (s : Span) : Type 0 where
  pub text : ℕ
  pub object : List ℕ
  pub there : record_at m text l.string.size ≡ Ok object
  pub few : u64_in object l.string.length < 4096
  pub characters : Characters
  pub coded : characters_of l text object ≡ Some characters
  pub is : IsRange characters.at (u64_in object l.string.length * width characters.kind) m s

-- exactly the bytes of a bytes object, as its record says how many there are
pub record AreBytes (l : Layout) (m : Memory) (s : Span) : Type 0 where
  pub bytes : ℕ
  pub object : List ℕ
  pub there : record_at m bytes l.bytes.size ≡ Ok object
  pub is : IsRange (bytes + l.bytes.at) (u64_in object l.bytes.length) m s

-- as long as a field, and shorter than 65536 bytes
pub record IsField (m : Memory) (s : Span) : Type 0 where
  pub short : s.len < 2 ^ 16
  pub width : IsWidth s.len

-- a range that is consulted: as long as a field or as a record of the layout, or exactly the characters of a text or
-- the bytes of a bytes object; and shorter than 65536 bytes
pub record IsConsulted (l : Layout) (m : Memory) (s : Span) : Type 0 where
  pub short : s.len < 2 ^ 16
  pub is : IsWidth s.len ⊎ (IsRecordSize l s.len ⊎ (AreCharacters l m s ⊎ AreBytes l m s))

-- what readers of fields alone owe, which need no layout
abbrev pub ReadingFields : ℕ → Seen → Seen → (Memory → Type 0) → Type 0
ReadingFields n old new Q = ReadingOf IsField n old new Q

-- the same of a reader that looks at fields alone, each as long as a number of 1, 2, 4 or 8 bytes
abbrev pub ReadsFields : {T E : Type 0} → (E → Option Fault) → ℕ → Seen → Seen → (Memory → Found T) → Result T E
    → Type 0
ReadsFields fault n old new definition result = ReadsOf IsField fault n old new definition result

-- what readers of objects and stacks owe: each range that they read is one that is consulted
abbrev pub Consulting : Layout → ℕ → Seen → Seen → (Memory → Type 0) → Type 0
Consulting l n old new Q = ReadingOf (IsConsulted l) n old new Q

-- a reader's result is the definition's, by at most so many reads, each of a range that a layout consults
abbrev pub Consults : {T E : Type 0} → Layout → (E → Option Fault) → ℕ → Seen → Seen → (Memory → Found T)
    → Result T E → Type 0
Consults l fault n old new definition result = ReadsOf (IsConsulted l) fault n old new definition result

-- the same two, where the memory itself says how many reads there are at most
abbrev pub ConsultingBy : Layout → (Memory → ℕ) → Seen → Seen → (Memory → Type 0) → Type 0
ConsultingBy l cost old new Q = Consulting l (cost (byte_at old.pieces)) old new Q

-- the same, where the memory itself says how many reads there are at most
abbrev pub ConsultsBy : {T E : Type 0} → Layout → (E → Option Fault) → (Memory → ℕ) → Seen → Seen
    → (Memory → Found T) → Result T E → Type 0
ConsultsBy l fault cost old new definition result =
    Consults l fault (cost (byte_at old.pieces)) old new definition result
