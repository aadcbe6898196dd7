-- Numbers as they are shown. An integer has digits of 30 bits, the lowest first, in 4 bytes each (`ob_digit`,
-- Include/cpython/longintrepr.h); a float's 8 bytes and a complex number's two floats stand behind the head of the object
-- (Include/cpython/floatobject.h, Include/complexobject.h). That no more than 110 digits are read is this project's rule.
use Rattle.std.specs.Prelude.{ℕ, ◌+◌, ◌-◌, ◌*◌, nat_le, Bool, true, false, if◌then◌else◌, Ok, pos, int_lt}
use Rattle.std.specs.Int.{w32}
use Rattle.elf64_core.specs.Fields.{u32_in, u64_in}
use Rattle.process_memory.specs.Memory.{Found, Memory, ◌>>=◌, record_at, word_at}
use Rattle.py_fields.specs.declared.layout.Layout.{Layout}
use Rattle.py_builtins.specs.declared.integers.Digits.{Digits}
use Rattle.py_builtins.specs.Integers.{digits_of, long_at, small_at}
use Rattle.py_builtins.specs.TextKind.{numbers_of}
use Rattle.py_reprs.specs.declared.repr.IntegerForm.{IntegerForm}
use Rattle.py_reprs.specs.declared.repr.IntegerForm.TheVariants.{Int, Long}
use Rattle.py_reprs.specs.Kinds.{is_python_2}
use Rattle.py_reprs.specs.Trees.{Tree}
use Rattle.py_reprs.specs.Trees.Tree.{Integer, SmallInteger, HugeInteger, Truth, Float, Complex}

-- how integers of any size are written: Python 2 has an `L` behind them
abbrev pub integer_form : Layout → IntegerForm
integer_form l = if is_python_2 l then Long else Int

-- an integer of so many digits, of which each is read
unfoldable pub digits_at : Layout → Memory → ℕ → Digits → Found Tree
digits_at l m a d = do
  bytes ← record_at m (a + l.long.digits) (4 * d.count)
  Ok (Integer (integer_form l) d.negative (numbers_of w32 4 bytes))

-- one of more digits, by the highest of them
unfoldable pub highest_at : Layout → Memory → ℕ → Digits → Found Tree
highest_at l m a d = do
  bytes ← record_at m (a + l.long.digits + 4 * (d.count - 1)) 4
  Ok (HugeInteger (integer_form l) d.negative d.count (u32_in bytes 0))

-- an integer by its digits: its number up to 110 digits of 30 bits, else how many bits it has
unfoldable pub integer_by : Layout → Memory → ℕ → Digits → Found Tree
integer_by l m a d = if nat_le d.count 110 then digits_at l m a d else highest_at l m a d

-- the integer at an address
unfoldable pub integer_at : Layout → Memory → ℕ → Found Tree
integer_at l m a = do
  object ← record_at m a l.long.size
  integer_by l m a (digits_of l.integers (u64_in object l.long.count))

-- Python 2's `int` at an address
unfoldable pub small_integer_at : Layout → Memory → ℕ → Found Tree
small_integer_at l m a = do
  z ← small_at l m a
  Ok (SmallInteger z)

-- the truth value at an address, which is an integer: true above 0
unfoldable pub truth_by : Bool → Layout → Memory → ℕ → Found Tree
truth_by true l m a = do
  z ← small_at l m a
  Ok (Truth (int_lt (pos 0) z))
truth_by false l m a = do
  z ← long_at l m a
  Ok (Truth (int_lt (pos 0) z.0))

-- the 64 bits of a float (IEEE 754 binary64)
unfoldable pub float_at : Layout → Memory → ℕ → Found Tree
float_at l m a = do
  bits ← word_at m (a + l.float.value)
  Ok (Float bits)

-- the complex number at an address: its first float stands where a float has its own
unfoldable pub complex_at : Layout → Memory → ℕ → Found Tree
complex_at l m a = do
  real ← word_at m (a + l.float.value)
  imaginary ← word_at m (a + (l.float.value + 8))
  Ok (Complex real imaginary)
