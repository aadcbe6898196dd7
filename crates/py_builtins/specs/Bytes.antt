-- Bytes objects. The rule is CPython's of its bytes objects; that there are fewer than 65536 of them is this
-- project's.
use Rattle.std.specs.Prelude.{ℕ, ◌+◌, nat_le, if◌then◌else◌, List, Err}
use Rattle.std.specs.Int.{w64, cast_signed}
use Rattle.elf64_core.specs.Fields.{u64_in}
use Rattle.process_memory.specs.Memory.{Memory, Found, ◌>>=◌, record_at}
use Rattle.process_memory.specs.Memory.Fault.{TooLong}
use Rattle.py_fields.specs.declared.layout.Layout.{Layout}

-- so many bytes, which stand behind the record of the object at an address; a length below 0 is a number from
-- 2^63 on
unfoldable pub bytes_of_length : Layout → Memory → ℕ → ℕ → Found (List ℕ)
bytes_of_length l m a n = if nat_le 65536 n then Err (TooLong (cast_signed w64 n)) else record_at m (a + l.bytes.at) n

-- the bytes of the bytes object at an address, as many as its record says
unfoldable pub bytes_object_at : Layout → Memory → ℕ → Found (List ℕ)
bytes_object_at l m a = do
  object ← record_at m a l.bytes.size
  bytes_of_length l m a (u64_in object l.bytes.length)
