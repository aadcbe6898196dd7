-- The steps of reading a line.
use Rattle.std.proofs.Common.{◌≡◌, ℕ, ◌+◌, ◌<◌, List, length, leb, Bool, true, false, refl, arith}
use Rattle.std.specs.Prelude.{Ok}
use Rattle.std.proofs.lemmas.Bool.Decides.{nat_tests}
use Rattle.process_memory.specs.Memory.{Memory, record_at}
use Rattle.process_memory.proofs.Founds.{bound}
use Rattle.process_memory.proofs.Records.{record_length}
use Rattle.elf64_core.specs.Fields.{u64_in}
use Rattle.py_fields.specs.declared.layout.Layout.{Layout}
use Rattle.py_builtins.specs.Bytes.{bytes_object_at, bytes_of_length}

length_short : (l : Layout) (m : Memory) (a n : ℕ) (bytes : List ℕ) (t : Bool) → leb 65536 n ≡ t → bytes_of_length l m a n ≡ Ok bytes → length bytes < 65536
unfolding bytes_of_length
length_short l m a n bytes true long e = absurd (cc)
length_short l m a n bytes false short e =
    let is : record_at m (a + l.bytes.at) n ≡ Ok bytes = rw short at e in
    let fine : n < 65536 = grind (arith, nat_tests) in
    omega (arith, record_length m (a + l.bytes.at) n bytes is)

-- bytes that aren't refused are fewer than 65536
pub bytes_short : (l : Layout) (m : Memory) (a : ℕ) (bytes : List ℕ) → bytes_object_at l m a ≡ Ok bytes → length bytes < 65536
unfolding bytes_object_at
bytes_short l m a bytes e =
    let object = bound (record_at m a l.bytes.size) _ bytes e in
    length_short l m a (u64_in object.0 l.bytes.length) bytes (leb 65536 (u64_in object.0 l.bytes.length)) refl object.2
