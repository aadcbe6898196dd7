-- What is kept where something is not in memory.
use Rattle.std.proofs.Common.{◌≡◌, ℕ, refl, arith}
use Rattle.std.specs.Prelude.{Option, Result, Ok, Err}
use Rattle.process_memory.specs.Memory.{Memory, Found}
use Rattle.process_memory.specs.Seen.{Answers, Reads, Seen, read_fault}
use Rattle.process_memory.specs.declared.memory.ReadFault.{ReadFault}
use Rattle.process_memory.specs.declared.memory.ReadFault.TheVariants.{Unreadable, OutOfMemory}
use Rattle.process_memory.proofs.Reading.{reading_gives}
use Rattle.py_selftest.specs.Telling.{kept, kept_result}

kept_is : {T : Type 0} (d : Found (Option T)) (r : Result (Option T) ReadFault) → Answers read_fault d r
    → Answers read_fault (kept d) (kept_result r)
kept_is d (Ok told) a = record { is = rw a.is refl }
kept_is d (Err (Unreadable at n)) a = record { is = rw a.is refl }
kept_is d (Err OutOfMemory) a = record { is = tt }

pub reads_kept : {T : Type 0} {n : ℕ} {s0 s1 : Seen} {r told : Result (Option T) ReadFault}
    (d : Memory → Found (Option T)) → told ≡ kept_result r
    → Reads read_fault n s0 s1 d r → Reads read_fault n s0 s1 (λ m. kept (d m)) told
reads_kept {r = r} d is p = rw is (reading_gives _ _ p (omega arith) (λ m a. kept_is (d m) r a))
