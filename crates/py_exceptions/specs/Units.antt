-- What a text or a bytes object has at a place. A character of a text has 1, 2 or 4 bytes, the lowest first, and a
-- surrogate is one by itself (`PyUnicode_READ`, Include/cpython/unicodeobject.h). Which objects are texts and bytes the
-- flags of their types say (`PyUnicode_Check`, Include/unicodeobject.h; `PyBytes_Check`, Include/bytesobject.h).
use Rattle.std.specs.Prelude.{ℕ, ◌+◌, ◌*◌, ◌/◌, ◌%◌, ◌^◌, nat_eq, nat_lt, Bool, Option, Some, None, List, Ok}
use Rattle.std.specs.Prelude.{if◌then◌else◌}
use Rattle.elf64_core.specs.Fields.{u8_in, u16_in, u32_in, u64_in}
use Rattle.process_memory.specs.Memory.{Found, Memory, ◌>>=◌, record_at}
use Rattle.py_fields.specs.declared.layout.Layout.{Layout}
use Rattle.py_builtins.specs.declared.coding.TextKind.{TextKind}
use Rattle.py_builtins.specs.declared.coding.TextKind.TheVariants.{Utf8, Latin1, Utf16, Utf32}
use Rattle.py_builtins.specs.declared.strings.Characters.{Characters}
use Rattle.py_builtins.specs.declared.types.ObjectType.{ObjectType}
use Rattle.py_builtins.specs.TextKind.{width}
use Rattle.py_builtins.specs.Texts.{characters_of}
use Rattle.py_builtins.specs.Types.{type_at}
use Rattle.py_exceptions.specs.declared.unit.Unit.{Unit}
use Rattle.py_exceptions.specs.declared.unit.Unit.TheVariants as unit
use Rattle.py_exceptions.specs.declared.unit.Units.{Units}
use Rattle.py_exceptions.specs.declared.unit.Units.TheVariants as units
use Rattle.py_exceptions.specs.Faults.{found_or_none}

-- the number that the bytes of a character are
abbrev pub number_in : TextKind → List ℕ → ℕ
number_in Utf8 bytes = u8_in bytes 0
number_in Latin1 bytes = u8_in bytes 0
number_in Utf16 bytes = u16_in bytes 0
number_in Utf32 bytes = u32_in bytes 0

-- the character of a number, where and as is said
unfoldable pub coded_at : Memory → ℕ → Characters → Found (Option Unit)
coded_at m n p =
    record_at m (p.at + n * width p.kind) (width p.kind) >>= (λ bytes. Ok (Some (unit.Is (number_in p.kind bytes))))

-- none where the text's record says no kind
abbrev pub character_by : Memory → ℕ → Option Characters → Found (Option Unit)
character_by m n None = Ok None
character_by m n (Some p) = coded_at m n p

-- the same by the record of the text
abbrev pub in_text : Layout → Memory → ℕ → ℕ → List ℕ → Found (Option Unit)
in_text l m a n object =
    if nat_lt n (u64_in object l.string.length) then character_by m n (characters_of l a object)
    else Ok (Some unit.Outside)

-- the character of a number that the text at an address has
unfoldable pub character_at : Layout → Memory → ℕ → ℕ → Found (Option Unit)
character_at l m a n = record_at m a l.string.size >>= (λ object. in_text l m a n object)

-- the byte of a number behind the record of a bytes object
unfoldable pub own_byte_at : Layout → Memory → ℕ → ℕ → Found (Option Unit)
own_byte_at l m a n = record_at m (a + l.bytes.at + n) 1 >>= (λ bytes. Ok (Some (unit.Is (u8_in bytes 0))))

-- the same, where the record says that there are so many
abbrev pub in_bytes : Layout → Memory → ℕ → ℕ → List ℕ → Found (Option Unit)
in_bytes l m a n object =
    if nat_lt n (u64_in object l.bytes.length) then own_byte_at l m a n else Ok (Some unit.Outside)

-- the byte of a number that the bytes object at an address has
unfoldable pub byte_of : Layout → Memory → ℕ → ℕ → Found (Option Unit)
byte_of l m a n = record_at m a l.bytes.size >>= (λ object. in_bytes l m a n object)

-- the flags are those of a type of such objects (`Py_TPFLAGS_UNICODE_SUBCLASS` is bit 28, `Py_TPFLAGS_BYTES_SUBCLASS`
-- bit 27: Include/object.h)
abbrev pub is_of : Units → ℕ → Bool
is_of units.Characters flags = nat_eq (flags / 2 ^ 28 % 2) 1
is_of units.Bytes flags = nat_eq (flags / 2 ^ 27 % 2) 1

-- what an object of such has at a place
abbrev pub unit_in : Layout → Memory → Units → ℕ → ℕ → Found (Option Unit)
unit_in l m units.Characters a n = character_at l m a n
unit_in l m units.Bytes a n = byte_of l m a n

-- the same by its type
abbrev pub if_of : Layout → Memory → Units → ℕ → ℕ → ObjectType → Found (Option Unit)
if_of l m u a n t = if is_of u t.flags then unit_in l m u a n else Ok None

-- the same of an object that is one of these, none of another one
unfoldable pub unit_found_at : Layout → Memory → Units → ℕ → ℕ → Found (Option Unit)
unit_found_at l m u a n = type_at l m a >>= (λ t. if_of l m u a n t)

-- the same, none where it can't be read; a number from 2^63 on is below 0, where nothing is
unfoldable pub unit_at : Layout → Memory → Units → ℕ → ℕ → Option Unit
unit_at l m u a n = if nat_lt n (2 ^ 63) then found_or_none (unit_found_at l m u a n) else None
