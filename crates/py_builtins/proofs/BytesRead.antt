-- The steps of reading bytes.
use Rattle.std.proofs.Common.{◌≡◌, ℕ, ◌+◌, ◌<◌, ◌≤◌, leb, true, false, refl, arith}
use Rattle.std.specs.Prelude.{Err}
use Rattle.std.specs.Int.{w64, cast_signed}
use Rattle.std.proofs.lemmas.Bool.Decides.{nat_tests}
use Rattle.process_memory.specs.Memory.{Memory, record_at}
use Rattle.process_memory.specs.Memory.Fault.{TooLong}
use Rattle.py_fields.specs.declared.layout.Layout.{Layout}
use Rattle.py_builtins.specs.Bytes.{bytes_of_length}

pub bytes_long : (l : Layout) (m : Memory) (a n : ℕ) → 65536 ≤ n → bytes_of_length l m a n ≡ Err (TooLong (cast_signed w64 n))
unfolding bytes_of_length
bytes_long l m a n le = let long : leb 65536 n ≡ true = grind (arith, nat_tests) in rw long refl

pub bytes_fine : (l : Layout) (m : Memory) (a n : ℕ) → n < 65536 → bytes_of_length l m a n ≡ record_at m (a + l.bytes.at) n
unfolding bytes_of_length
bytes_fine l m a n lt = let fine : leb 65536 n ≡ false = grind (arith, nat_tests) in rw fine refl
