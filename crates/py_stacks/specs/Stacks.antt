-- The stacks of an interpreter: the holder of its lock, and the traces of its threads, marked by it.
use Rattle.std.specs.Prelude.{◌≡◌, ℕ, ◌+◌, nat_eq, List, map, Ok}
use Rattle.process_memory.specs.Memory.{Memory, Found, Fault, ◌>>=◌}
use Rattle.process_memory.specs.Faults.{faults_then}
use Rattle.py_fields.specs.declared.layout.Layout.{Layout}
use Rattle.py_stacks.specs.declared.asked.Asked.{Asked}
use Rattle.py_stacks.specs.Frames.{cost_after}
use Rattle.py_stacks.specs.Holder.{holder_id_at}
use Rattle.py_stacks.specs.Threads.{AreTraces, Trace, traces_at, traces_cost, traces_faults}

-- a trace holds the lock exactly where its id is the holder's
abbrev pub by_holder : ℕ → Trace → Trace
by_holder holder_id t = record t { owns_gil = nat_eq t.thread_id holder_id }

-- the traces of an interpreter's threads, each marked by the holder of the lock, or the first fault
unfoldable pub stacks_at : Asked → Layout → Memory → ℕ → ℕ → Found (List Trace)
stacks_at q l m lock interpreter = do
  holder_id ← holder_id_at l m lock
  traces ← traces_at q l m interpreter
  Ok (map (by_holder holder_id) traces)

-- at most two reads for the holder, and those of the threads
unfoldable pub stacks_cost : Asked → Layout → Memory → ℕ → ℕ → ℕ
stacks_cost q l m lock interpreter = 2 + cost_after (holder_id_at l m lock) (λ holder_id. traces_cost q l m interpreter)

-- ---- in the subject's own words

-- the traces are those of the interpreter's whole chain of threads, and those hold the lock whose id is the
-- holder's
pub record AreStacks (q : Asked) (l : Layout) (m : Memory) (lock interpreter : ℕ) (traces : List Trace) : Type 0 where
  pub holder_id : ℕ
  pub held : holder_id_at l m lock ≡ Ok holder_id
  pub unmarked : List Trace
  pub threads : AreTraces q l m interpreter unmarked
  pub marks : traces ≡ map (by_holder holder_id) unmarked

-- the faults, in order: the one on the way to the holder, then those of the threads
unfoldable pub stacks_faults : Asked → Layout → Memory → ℕ → ℕ → List Fault
stacks_faults q l m lock interpreter =
    faults_then (holder_id_at l m lock) (λ holder_id. traces_faults q l m interpreter)
