-- What is known where a word may not be in memory.
use Rattle.std.proofs.Common.{◌≡◌, ℕ, refl, arith}
use Rattle.std.specs.Prelude.{Option, Result, Ok, Err}
use Rattle.process_memory.specs.Memory.{Memory, Found}
use Rattle.process_memory.specs.Seen.{Answers, Reads, Seen, read_fault}
use Rattle.process_memory.specs.declared.memory.ReadFault.{ReadFault}
use Rattle.process_memory.specs.declared.memory.ReadFault.TheVariants.{Unreadable, OutOfMemory}
use Rattle.process_memory.proofs.Reading.{reading_gives}
use Rattle.py_waits.specs.Words.{known, known_result}

known_is : (d : Found ℕ) (r : Result ℕ ReadFault) → Answers read_fault d r
    → Answers read_fault (known d) (known_result r)
known_is d (Ok word) a = record { is = rw a.is refl }
known_is d (Err (Unreadable at n)) a = record { is = rw a.is refl }
known_is d (Err OutOfMemory) a = record { is = tt }

pub reads_known : {n : ℕ} {s0 s1 : Seen} {r : Result ℕ ReadFault} {told : Result (Option ℕ) ReadFault}
    (d : Memory → Found ℕ) → told ≡ known_result r → Reads read_fault n s0 s1 d r
    → Reads read_fault n s0 s1 (λ m. known (d m)) told
reads_known {r = r} d is p = rw is (reading_gives _ _ p (omega arith) (λ m a. known_is (d m) r a))
