-- Text objects, as they are written: of the least kind that has all of the characters.
use Rattle.std.specs.Str.{all_scalars}
use Rattle.std.specs.Prelude.{Ok, ◌≡◌, ℕ, ◌+◌, ◌≤◌, ◌<◌, ◌^◌, take, true, Option, Some, None, List, [], ◌∷◌, length}
use Rattle.std.specs.Prelude.{if◌then◌else◌, encode_utf8_all}
use Rattle.std.specs.Option.{unwrap_or}
use Rattle.std.specs.Int.{w32, to_le_bytes}
use Rattle.std.specs.Int.RustNames.{bit_or}
use Rattle.py_fields.specs.Places.{Apart}
use Rattle.py_fields.specs.declared.layout.Layout.{Layout}
use Rattle.py_fields.specs.declared.layout.StringAt.{StringAt}
use Rattle.py_fields.specs.declared.layout.Strings.{Strings}
use Rattle.py_fields.specs.declared.layout.Strings.TheVariants.{State, Bytes as PlainBytes}
use Rattle.py_builtins.specs.declared.coding.TextKind.{TextKind}
use Rattle.py_builtins.specs.declared.coding.TextKind.TheVariants.{Utf8, Latin1, Utf16, Utf32}
use Rattle.py_builtins.specs.declared.strings.StateAt.{StateAt}
use Rattle.py_builtins.specs.TextKind.{coded}
use Rattle.process_memory.specs.Memory.{Memory}
use Rattle.py_builtins.specs.Texts.{state_at, text_at}
use Rattle.object_builder.specs.Placing.{Stands}
use Rattle.object_builder.specs.Sizes.{all_under, text_len}
use Rattle.object_builder.specs.Objects.{Write, object, optional_write}
use Rattle.object_builder.specs.Objects.Value.{U64, U32, Bytes}

-- ---- which texts

-- a text of fewer than 4096 characters, and bytes in UTF-8
pub record IsBriefText (text : List ℕ) : Type 0 where
  pub scalars : all_scalars text ≡ true
  pub chars : length text < 4096
  pub bytes : length (encode_utf8_all text) < 4096

-- ---- which kind

-- the least kind of a text with a state: ASCII is written as its UTF-8
abbrev pub least_kind : List ℕ → TextKind
least_kind cs =
    if all_under 0x80 cs then Utf8 else
    (if all_under 0x100 cs then Latin1 else (if all_under 0x1_0000 cs then Utf16 else Utf32))

-- how a text's characters are coded: the least kind where texts have a state, else UTF-8
abbrev pub kind_for : Strings → List ℕ → TextKind
kind_for State cs = least_kind cs
kind_for PlainBytes cs = Utf8

-- how many units of the kind the characters are
abbrev pub units_of : TextKind → List ℕ → ℕ
units_of Utf8 cs = length (encode_utf8_all cs)
units_of Latin1 cs = length cs
units_of Utf16 cs = length cs
units_of Utf32 cs = length cs

-- whether a kind has all of the characters
abbrev pub Suits : TextKind → List ℕ → Type 0
Suits Utf8 cs = Unit {0}
Suits Latin1 cs = all_under 0x100 cs ≡ true
Suits Utf16 cs = all_under 0x1_0000 cs ≡ true
Suits Utf32 cs = Unit {0}

-- the lowest bytes of a character's code
abbrev pub code_bytes : ℕ → ℕ → List ℕ
code_bytes n c = take n (to_le_bytes w32 c)

-- ---- the object

-- the bits of a state are bits of 4 bytes, and different
pub record AreBits (s : StateAt) : Type 0 where
  pub shift : s.kind_shift ≤ 29
  pub compact : s.compact_bit ≤ 31
  pub ascii : s.ascii_bit ≤ 31
  pub compact_apart : Apart (s.kind_shift, 3) (s.compact_bit, 1)
  pub ascii_apart : Apart (s.kind_shift, 3) (s.ascii_bit, 1)
  pub differ : Apart (s.compact_bit, 1) (s.ascii_bit, 1)

-- the bits of a compact text
unfoldable pub state_of : StateAt → TextKind → ℕ
state_of s Utf8 = bit_or (bit_or (2 ^ s.kind_shift) (2 ^ s.compact_bit)) (2 ^ s.ascii_bit)
state_of s Latin1 = bit_or (2 ^ s.kind_shift) (2 ^ s.compact_bit)
state_of s Utf16 = bit_or (2 ^ (s.kind_shift + 1)) (2 ^ s.compact_bit)
state_of s Utf32 = bit_or (2 ^ (s.kind_shift + 2)) (2 ^ s.compact_bit)

-- the bits of a text's state; 0 where texts have none
abbrev pub state_by : Option StateAt → TextKind → ℕ
state_by None k = 0
state_by (Some s) k = state_of s k

-- where the characters stand in the object
abbrev pub start_of : StringAt → TextKind → ℕ
start_of s Utf8 = s.short_at
start_of s Latin1 = unwrap_or s.long_at 0
start_of s Utf16 = unwrap_or s.long_at 0
start_of s Utf32 = unwrap_or s.long_at 0

-- where an object names its type, if it is a value
abbrev pub klass_write : Layout → Option ℕ → Write
klass_write l None = record { at = 0; value = Bytes [] }
klass_write l (Some klass) = record { at = l.object.klass; value = U64 klass }

-- the fields of a text: its length in units of its coding, its state, its characters, and its type
abbrev pub text_writes : Layout → Option ℕ → TextKind → List ℕ → List Write
text_writes l klass k cs =
    record { at = l.string.length; value = U64 (units_of k cs) } ∷
    optional_write l.string.state (U32 (state_by (state_at l.string) k)) ∷
    record { at = start_of l.string k; value = Bytes (coded k cs) } ∷
    klass_write l klass ∷ []

-- the object of a text, with its type where it is a value
unfoldable pub text_object : Layout → Option ℕ → List ℕ → List ℕ
text_object l klass cs = object (text_len l cs) (text_writes l klass (kind_for l.strings cs) cs)

-- ---- what it is read as

-- in each memory in which the bytes stand, wherever that is, they are read as the text
abbrev pub ReadsAsText : Layout → (text bytes : List ℕ) → Type 0
ReadsAsText l text bytes = (m : Memory) (a : ℕ) → Stands m a bytes → text_at l m a ≡ Ok text
