-- What is made of what was read, where only memory may be wanted.
use Rattle.std.proofs.Common.{◌≡◌, ℕ, sym, ap}
use Rattle.std.specs.Prelude.{Result, Ok, Err, IfOk, IfErr, None}
use Rattle.process_memory.specs.Memory.{Memory, Found}
use Rattle.process_memory.specs.Seen.{Reads, Seen, read_fault}
use Rattle.process_memory.specs.declared.memory.ReadFault.{ReadFault}
use Rattle.process_memory.specs.declared.memory.ReadFault.TheVariants.{OutOfMemory}
use Rattle.process_memory.proofs.Reading.{reads_end, reads_known}
use Rattle.py_selftest.specs.declared.walking.Met.{Met}
use Rattle.py_selftest.specs.Walking.{MetShown, met_result, met_shown}

pub reads_lost : {T : Type 0} (k : ℕ) {s : Seen} (d : Memory → Found T) (e : ReadFault) → read_fault e ≡ None
    → Reads {T = T} read_fault k s s d (Err e)
reads_lost k d e same = reads_known k d (Err e) (λ m. record { is = rw same tt })

pub reads_made : (k : ℕ) {s : Seen} (r : Result Met ReadFault) (x : MetShown) → IfOk r (λ new. met_shown new ≡ x)
    → IfErr r (λ error. error ≡ OutOfMemory) → Reads read_fault k s s (λ m. Ok x) (met_result r)
reads_made k (Ok met) x is memory = reads_end k (sym is)
reads_made k (Err e) x is memory = reads_lost k (λ m. Ok x) e (ap read_fault memory)
