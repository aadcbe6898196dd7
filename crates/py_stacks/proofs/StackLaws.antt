-- What the reading of an interpreter's stacks says in the subject's own words: the holder and the whole chain of
-- threads, and the first fault; and what it costs.
use Rattle.std.proofs.Common.{◌≡◌, ℕ, ◌+◌, ◌≤◌, List, map, sym, ◌∙◌, refl, arith}
use Rattle.std.specs.Prelude.{Option, Result, Ok, Err, IfOk}
use Rattle.std.specs.Global.{Vec}
use Rattle.process_memory.specs.Memory.{Memory, Found, Fault, ◌>>=◌, byte_at}
use Rattle.process_memory.specs.Seen.{Seen, Answers, ReadsOf}
use Rattle.process_memory.specs.declared.memory.Span.{Span}
use Rattle.process_memory.specs.Walk.{first_fault, fault_in}
use Rattle.process_memory.specs.Faults.{FaultsAre}
use Rattle.process_memory.proofs.Reading.{reading_here}
use Rattle.process_memory.proofs.Walks.{faults_from_answer, then_same}
use Rattle.process_memory.proofs.Founds.{bound, ok_same}
use Rattle.py_fields.specs.declared.layout.Layout.{Layout}
use Rattle.py_stacks.specs.declared.asked.Asked.{Asked}
use Rattle.py_stacks.specs.declared.trace.StackTrace.{StackTrace}
use Rattle.py_stacks.specs.declared.error.StackError.{StackError}
use Rattle.py_stacks.specs.StackError.{stack_fault}
use Rattle.py_stacks.specs.Holder.{holder_id_at}
use Rattle.py_stacks.specs.Stacks.{AreStacks, by_holder, stacks_at, stacks_cost, stacks_faults}
use Rattle.py_stacks.specs.Threads.{Trace, trace_of, traces_at, traces_cost, traces_of_result}
use Rattle.py_stacks.proofs.ThreadLaws.{traces_found, traces_same}

pub stacks_costs : (q : Asked) (l : Layout) (m : Memory) (lock interpreter : ℕ) → 2 ≤ stacks_cost q l m lock interpreter
unfolding stacks_cost
stacks_costs q l m lock interpreter = omega arith

-- the threads' reads are counted in the interpreter's
pub stacks_budget : {allowed : Memory → Span → Type 0} {E : Type 0} {fault : E → Option Fault} {s0 s1 : Seen} (q : Asked) (l : Layout) (lock interpreter holder_id : ℕ)
    → ReadsOf {E = E} allowed fault 2 s0 s1 (λ m. holder_id_at l m lock) (Ok holder_id)
    → 2 + traces_cost q l (byte_at s1.pieces) interpreter ≤ stacks_cost q l (byte_at s0.pieces) lock interpreter
unfolding stacks_cost
stacks_budget q l lock interpreter holder_id r =
    let one = (reading_here r).is in
    rw (r.pieces, one) (omega arith)

pub stacks_found : (q : Asked) (l : Layout) (m : Memory) (lock interpreter : ℕ) (traces : List Trace)
    → stacks_at q l m lock interpreter ≡ Ok traces → AreStacks q l m lock interpreter traces
unfolding stacks_at
stacks_found q l m lock interpreter traces e =
    let holder_id = bound (holder_id_at l m lock) _ traces e in
    let plain = bound (traces_at q l m interpreter) _ traces holder_id.2 in
    record { holder_id = holder_id.0; held = holder_id.1; unmarked = plain.0; threads = traces_found q l m interpreter plain.0 plain.1; marks = sym (ok_same _ traces plain.2) }

-- the traces are those of the whole chain of threads, to null, marked by the holder of the lock
pub stacks_law : (q : Asked) (l : Layout) (m : Memory) (lock interpreter : ℕ) (r : Result (Vec StackTrace) StackError)
    → Answers stack_fault (stacks_at q l m lock interpreter) (traces_of_result r)
    → IfOk r (λ traces. AreStacks q l m lock interpreter (map trace_of traces.items))
stacks_law q l m lock interpreter (Err e) a = tt
stacks_law q l m lock interpreter (Ok v) a = stacks_found q l m lock interpreter (map trace_of v.items) a.is

pub from_inner : {T U : Type 0} (d : Found T) (f : T → U) → fault_in d ≡ fault_in (d >>= (λ x. Ok (f x)))
from_inner (Ok x) f = refl
from_inner (Err e) f = refl

pub stacks_same : (q : Asked) (l : Layout) (m : Memory) (lock interpreter : ℕ)
    → first_fault (stacks_faults q l m lock interpreter) ≡ fault_in (stacks_at q l m lock interpreter)
unfolding stacks_faults stacks_at
stacks_same q l m lock interpreter = then_same (holder_id_at l m lock) _ _ (λ holder_id. traces_same q l m interpreter ∙ from_inner (traces_at q l m interpreter) (map (by_holder holder_id)))

-- the error is the first fault of the list
pub stacks_faults_law : (q : Asked) (l : Layout) (m : Memory) (lock interpreter : ℕ) (r : Result (Vec StackTrace) StackError)
    → Answers stack_fault (stacks_at q l m lock interpreter) (traces_of_result r)
    → FaultsAre stack_fault (first_fault (stacks_faults q l m lock interpreter)) r
stacks_faults_law q l m lock interpreter (Ok v) a = faults_from_answer stack_fault (stacks_at q l m lock interpreter) _ (Ok (map trace_of v.items)) (stacks_same q l m lock interpreter) a
stacks_faults_law q l m lock interpreter (Err e) a = faults_from_answer {T = List Trace} stack_fault (stacks_at q l m lock interpreter) _ (Err e) (stacks_same q l m lock interpreter) a
