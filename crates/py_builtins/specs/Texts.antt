-- Text objects: the characters that they are read as. The rule is CPython's of its str objects; that a
-- length is below 4096 is this project's.
use Rattle.std.specs.Prelude.{◌≡◌, ℕ, zero, suc, ◌+◌, ◌*◌, ◌/◌, ◌%◌, ◌^◌, ◌<◌, nat_le, Bool, Option, Some, None, List}
use Rattle.std.specs.Prelude.{[], if◌then◌else◌, ◌==◌, Ok, Err}
use Rattle.std.specs.Int.{w64, cast_signed, bit_at}
use Rattle.elf64_core.specs.Fields.{u64_in, u32_in}
use Rattle.process_memory.specs.Memory.{Memory, Found, found_or, ◌>>=◌, record_at}
use Rattle.process_memory.specs.Memory.Fault.{NoText, TooLong}
use Rattle.py_fields.specs.declared.layout.Layout.{Layout}
use Rattle.py_fields.specs.declared.layout.StringAt.{StringAt}
use Rattle.py_fields.specs.declared.layout.Strings.{Strings}
use Rattle.py_fields.specs.declared.layout.Strings.TheVariants.{State, Bytes}
use Rattle.py_builtins.specs.declared.coding.TextKind.{TextKind}
use Rattle.py_builtins.specs.declared.coding.TextKind.TheVariants.{Utf8, Latin1, Utf16, Utf32}
use Rattle.py_builtins.specs.declared.strings.StateAt.{StateAt}
use Rattle.py_builtins.specs.declared.strings.Characters.{Characters}
use Rattle.py_builtins.specs.TextKind.{width, decoded, IsCodingOf}

-- whether a number has a bit, counted from the lowest, which is bit 0
abbrev pub bit_is_set : ℕ → ℕ → Bool
bit_is_set n bit = bit_at n bit == 1

-- where a text's state says how it is stored, if the layout has all of that
abbrev pub state_of_fields : Option ℕ → Option ℕ → Option ℕ → Option ℕ → Option ℕ → Option ℕ → Option StateAt
state_of_fields (Some state) (Some pointer) (Some long_at) (Some kind_shift) (Some compact_bit) (Some ascii_bit) =
    Some (record {
      state = state;
      pointer = pointer;
      long_at = long_at;
      kind_shift = kind_shift;
      compact_bit = compact_bit;
      ascii_bit = ascii_bit;
    })
state_of_fields _ _ _ _ _ _ = None

-- where the parts of a text's state stand, where the layout has a state
abbrev pub state_at : StringAt → Option StateAt
state_at s = state_of_fields s.state s.pointer s.long_at s.kind_shift s.compact_bit s.ascii_bit

-- the kind that three bits of the state say, beside whether the text is marked as ASCII
abbrev pub kind_by : ℕ → Bool → Option TextKind
kind_by zero ascii = None
kind_by (suc zero) ascii = Some (if ascii then Utf8 else Latin1)
kind_by (suc (suc zero)) ascii = Some Utf16
kind_by (suc (suc (suc zero))) ascii = None
kind_by (suc (suc (suc (suc zero)))) ascii = Some Utf32
kind_by (suc (suc (suc (suc (suc n))))) ascii = None

-- the kind that a state says
unfoldable pub kind_in : StateAt → ℕ → Option TextKind
kind_in s state = kind_by (state / 2 ^ s.kind_shift % 8) (bit_is_set state s.ascii_bit)

-- the address of the characters of a text at `a`: behind its record where they stand with it, and else what
-- the record says
unfoldable pub place_in : StringAt → StateAt → ℕ → List ℕ → ℕ → ℕ
place_in t s a object state =
    if bit_is_set state s.compact_bit
    then (if bit_is_set state s.ascii_bit then a + t.short_at else a + s.long_at)
    else u64_in object s.pointer

-- characters of this kind at an address, where the kind is known
abbrev pub with_place : ℕ → Option TextKind → Option Characters
with_place at None = None
with_place at (Some k) = Some (record { kind = k; at = at })

-- how a text's characters are coded and where they stand, by its state
abbrev pub characters_by : StringAt → ℕ → List ℕ → Option StateAt → Option Characters
characters_by t a object None = None
characters_by t a object (Some s) =
    with_place (place_in t s a object (u32_in object s.state)) (kind_in s (u32_in object s.state))

-- the same by the family of texts: a text without a state is UTF-8 behind its record
abbrev pub characters_with : Strings → StringAt → ℕ → List ℕ → Option Characters
characters_with State t a object = characters_by t a object (state_at t)
characters_with Bytes t a object = Some (record { kind = Utf8; at = a + t.short_at })

-- how the characters of the text at an address are coded and where they stand, by its record; none where it
-- says no kind
unfoldable pub characters_of : Layout → ℕ → List ℕ → Option Characters
characters_of l a object = characters_with l.strings l.string a object

-- the characters that `n` units code, where and as is said
unfoldable pub characters_at : Memory → ℕ → Option Characters → Found (List ℕ)
characters_at m n None = Err NoText
characters_at m n (Some p) = do
  bytes ← record_at m p.at (n * width p.kind)
  found_or (decoded p.kind bytes) NoText

-- the characters of a text whose record says that it has so many units
unfoldable pub text_of_length : Layout → Memory → ℕ → List ℕ → ℕ → Found (List ℕ)
text_of_length l m a object zero = Ok []
text_of_length l m a object (suc n) =
    if nat_le 4096 (suc n)
    then Err (TooLong (cast_signed w64 (suc n)))
    else characters_at m (suc n) (characters_of l a object)

-- the characters of the text at an address
unfoldable pub text_at : Layout → Memory → ℕ → Found (List ℕ)
text_at l m a = do
  object ← record_at m a l.string.size
  text_of_length l m a object (u64_in object l.string.length)

-- `n` units code the characters, where and as is said
pub record StandsAt (m : Memory) (n : ℕ) (p : Characters) (cs : List ℕ) : Type 0 where
  pub units : List ℕ
  pub there : record_at m p.at (n * width p.kind) ≡ Ok units
  pub coding : IsCodingOf p.kind cs units

-- the characters of a text whose record says that it has so many units: none, or those that the units code
abbrev pub HasCharacters : Layout → Memory → ℕ → List ℕ → ℕ → List ℕ → Type 0
HasCharacters l m a object zero cs = cs ≡ []
HasCharacters l m a object (suc n) cs =
    (suc n < 4096) × (p : Characters) × (characters_of l a object ≡ Some p) × StandsAt m (suc n) p cs

-- the object at an address is the text of these characters
pub record IsText (l : Layout) (m : Memory) (a : ℕ) (cs : List ℕ) : Type 0 where
  pub object : List ℕ
  pub there : record_at m a l.string.size ≡ Ok object
  pub characters : HasCharacters l m a object (u64_in object l.string.length) cs
