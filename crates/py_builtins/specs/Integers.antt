-- Integer objects. The rules are CPython's of its integers.
use Rattle.std.specs.Prelude.{ℕ, zero, suc, ◌+◌, ◌*◌, ◌/◌, ◌%◌, ◌^◌, nat_lt, ◌==◌, Bool, if◌then◌else◌, List, ℤ, pos}
use Rattle.std.specs.Prelude.{neg_ℤ, unsigned_abs, int_lt, Ok}
use Rattle.std.specs.Int.{w64, cast_signed}
use Rattle.elf64_core.specs.Fields.{u64_in, u32_in}
use Rattle.process_memory.specs.Memory.{Memory, Found, ◌>>=◌, record_at, word_at}
use Rattle.py_fields.specs.declared.layout.Layout.{Layout}
use Rattle.py_fields.specs.declared.layout.Integers.{Integers}
use Rattle.py_fields.specs.declared.layout.Integers.TheVariants.{Signed, Tagged}
use Rattle.py_builtins.specs.declared.integers.Digits.{Digits}

-- the number of a small integer of Python 2, which stands in its record
unfoldable pub small_at : Layout → Memory → ℕ → Found ℤ
small_at l m a = do
  object ← record_at m a l.small.size
  Ok (cast_signed w64 (u64_in object l.small.value))

-- how many digits of 30 bits the count of a record states, and whether the number is negative
abbrev pub digits_of : Integers → ℕ → Digits
digits_of Signed count = record {
  count = unsigned_abs (cast_signed w64 count);
  negative = int_lt (cast_signed w64 count) (pos 0);
}
digits_of Tagged count = record { count = count / 8; negative = count % 4 == 2 }

-- a magnitude with its sign
abbrev pub signed : Bool → ℕ → ℤ
signed negative n = if negative then neg_ℤ (pos n) else pos n

-- two digits of 30 bits, the lowest first, in 4 bytes each
abbrev pub two_big_digits : ℕ → ℕ
two_big_digits word = word % 2 ^ 32 + word / 2 ^ 32 * 2 ^ 30

-- the magnitude that so many digits have; of more than two it is their number
unfoldable pub magnitude_at : Layout → Memory → ℕ → List ℕ → ℕ → Found ℕ
magnitude_at l m a object zero = Ok 0
magnitude_at l m a object (suc zero) = Ok (u32_in object l.long.digits)
magnitude_at l m a object (suc (suc zero)) = do
  word ← word_at m (a + l.long.digits)
  Ok (two_big_digits word)
magnitude_at l m a object (suc (suc (suc n))) = Ok (suc (suc (suc n)))

-- the number that digits are, and whether there are more than two
unfoldable pub long_by : Layout → Memory → ℕ → List ℕ → Digits → Found (ℤ × Bool)
long_by l m a object digits = do
  magnitude ← magnitude_at l m a object digits.count
  Ok (signed digits.negative magnitude, nat_lt 2 digits.count)

-- the number of an integer, and whether it has more than two digits, so that it is their number
unfoldable pub long_at : Layout → Memory → ℕ → Found (ℤ × Bool)
long_at l m a = do
  object ← record_at m a l.long.size
  long_by l m a object (digits_of l.integers (u64_in object l.long.count))
