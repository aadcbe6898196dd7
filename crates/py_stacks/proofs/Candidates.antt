-- The test of an address, and what it costs.
use Rattle.std.proofs.Common.{◌≡◌, ◌≢◌, ℕ, ◌+◌, ◌*◌, ◌≤◌, Bool, true, false, cond, eqb, List, sym, ◌∙◌, refl, ap, arith}
use Rattle.std.proofs.lemmas.Bool.Decides.{nat_tests}
use Rattle.std.specs.Prelude.{Some, None, MatchOption, Result, Ok, Err, IfOk, IsTrue, ◌↔◌}
use Rattle.process_memory.specs.Memory.{Memory, Found, Fault, ◌>>=◌, byte_at}
use Rattle.process_memory.specs.Seen.{Seen, Answers, FaultIs, ReadsOf}
use Rattle.py_builtins.specs.Consulted.{Consults}
use Rattle.process_memory.specs.declared.memory.Span.{Span}
use Rattle.process_memory.proofs.Reading.{reading_gives, reading_here, reading_then, reads_within}
use Rattle.py_fields.specs.declared.layout.Layout.{Layout}
use Rattle.py_stacks.specs.declared.error.StackError.{StackError}
use Rattle.py_stacks.specs.declared.error.StackError.TheVariants.{OutOfMemory}
use Rattle.py_stacks.specs.StackError.{stack_fault}
use Rattle.py_stacks.specs.Asking.{nothing}
use Rattle.py_stacks.specs.Met.{members_met, threads_met}
use Rattle.py_stacks.specs.Threads.{AreTraces, Trace, traces_at, traces_cost}
use Rattle.py_stacks.specs.Interpreter.{IsInterpreter, IsInterpreterFrom, RefusesAddress, cost_from, members_from}
use Rattle.py_stacks.specs.Interpreter.{members_tested, named_at, interpreter_named_by, passes, passes_from}
use Rattle.py_stacks.specs.Interpreter.{passes_named, test_cost, threads_from, threads_head, threads_tested, was_found}
use Rattle.py_stacks.specs.Interpreter.{where_named}
use Rattle.py_stacks.proofs.Bounds.{members_met_most, threads_met_most}
use Rattle.py_stacks.proofs.Unasked.{plain_bound}
use Rattle.py_stacks.proofs.ThreadLaws.{traces_found}
use Rattle.py_stacks.proofs.Wholes.{traces_whole}
use Rattle.process_memory.proofs.Founds.{ok_same}

-- a fault of what is tested refuses
pub reads_refused : {allowed : Memory → Span → Type 0} {T : Type 0} {n : ℕ} {s0 s1 : Seen} {e : StackError} {result : Result Bool StackError} (d : Memory → Found T) (g : Memory → Found T → Bool)
    → ((m : Memory) (f : Fault) → g m (Err f) ≡ false) → ReadsOf {T = T} allowed stack_fault n s0 s1 d (Err e) → RefusesAddress e result
    → ReadsOf allowed stack_fault n s0 s1 (λ m. Ok (g m (d m))) result
reads_refused {T = T} {n = n} {e = e} {result = result} d g refuse r is = reading_gives n _ r (omega arith) (λ m a.
    elim (stack_fault e) as (λ o. FaultIs (d m) o → MatchOption o (result ≡ Err OutOfMemory) (λ f. result ≡ Ok false) → Answers stack_fault (Ok (g m (d m))) result)
    [ None ↦ λ h same. rw same (record { is = tt }) | Some f ↦ λ h same. rw (same, h) (record { is = ap Ok (refuse m f) }) ] a.is is)

from_this : (l : Layout) (m : Memory) (a head named : ℕ) → named ≡ a → interpreter_named_by l m head ≡ Ok named
    → passes_from l m a head ≡ was_found (traces_at nothing l m a)
unfolding passes_from
from_this l m a head named same e = let is : eqb named a ≡ true = grind (arith, nat_tests) in rw (e, is) refl

pub from_other : (l : Layout) (m : Memory) (a head named : ℕ) → named ≢ a → interpreter_named_by l m head ≡ Ok named
    → passes_from l m a head ≡ false
unfolding passes_from
from_other l m a head named other e = let is : eqb named a ≡ false = grind (arith, nat_tests) in rw (e, is) refl

pub from_costs : (l : Layout) (m : Memory) (a head : ℕ) → 1 ≤ cost_from l m a head
unfolding cost_from
from_costs l m a head = omega arith

from_budget : (l : Layout) (m : Memory) (a head named : ℕ) → named ≡ a → interpreter_named_by l m head ≡ Ok named
    → 1 + traces_cost nothing l m a ≤ cost_from l m a head
unfolding cost_from
from_budget l m a head named same e = let is : eqb named a ≡ true = grind (arith, nat_tests) in rw (e, is) (omega arith)

-- the thread names the address, and the walk is made
pub from_then : {s0 s1 s2 : Seen} {result : Result Bool StackError} (l : Layout) (a head named : ℕ) → named ≡ a
    → Consults {E = StackError} l stack_fault 1 s0 s1 (λ m. interpreter_named_by l m head) (Ok named)
    → Consults l stack_fault (traces_cost nothing l (byte_at s1.pieces) a) s1 s2 (λ m. Ok (was_found (traces_at nothing l m a))) result
    → Consults l stack_fault (cost_from l (byte_at s0.pieces) a head) s0 s2 (λ m. Ok (passes_from l m a head)) result
from_then {s0 = s0} {result = result} l a head named same r w =
    let budget = from_budget l (byte_at s0.pieces) a head named same (reading_here r).is in
    reads_within _ (reading_then (λ m. Answers stack_fault (Ok (passes_from l m a head)) result) r w (λ m x y. rw (from_this l m a head named same x.is) y)) (rw r.pieces budget)

-- ---- the head first

named_from : (l : Layout) (m : Memory) (a head : ℕ) → threads_head l m a ≡ Ok head → named_at l m a ≡ interpreter_named_by l m head
unfolding named_at
named_from l m a head e = rw e refl

pub passes_split : (l : Layout) (m : Memory) (a head : ℕ) → threads_head l m a ≡ Ok head → passes l m a ≡ passes_from l m a head
unfolding passes passes_from
passes_split l m a head e = ap (passes_named l m a) (named_from l m a head e)

pub threads_split : (l : Layout) (m : Memory) (a head : ℕ) → threads_head l m a ≡ Ok head → threads_tested l m a ≡ threads_from l m a head
unfolding threads_tested threads_from
threads_split l m a head e = ap (where_named (threads_met nothing l m a) a) (named_from l m a head e)

pub members_split : (l : Layout) (m : Memory) (a head : ℕ) → threads_head l m a ≡ Ok head → members_tested l m a ≡ members_from l m a head
unfolding members_tested members_from
members_split l m a head e = ap (where_named (members_met nothing l m a) a) (named_from l m a head e)

pub passes_headless : (l : Layout) (m : Memory) (a : ℕ) (f : Fault) → threads_head l m a ≡ Err f → passes l m a ≡ false
unfolding passes named_at
passes_headless l m a f e = rw e refl

pub reads_headless : {s0 s1 : Seen} {e : StackError} {result : Result Bool StackError} (l : Layout) (a : ℕ)
    → Consults {T = ℕ} l stack_fault 1 s0 s1 (λ m. threads_head l m a) (Err e) → RefusesAddress e result
    → Consults l stack_fault 1 s0 s1 (λ m. Ok (passes l m a)) result
unfolding passes named_at
reads_headless l a r is = reads_refused (λ m. threads_head l m a) (λ m d. passes_named l m a (d >>= interpreter_named_by l m)) (λ m f. refl) r is

pub test_costs : (l : Layout) (m : Memory) (a : ℕ) → 1 ≤ test_cost l m a
unfolding test_cost
test_costs l m a = omega arith

cost_split : (l : Layout) (m : Memory) (a head : ℕ) → threads_head l m a ≡ Ok head → 1 + cost_from l m a head ≤ test_cost l m a
unfolding test_cost cost_from
cost_split l m a head e = let same = ap (where_named (traces_cost nothing l m a) a) (named_from l m a head e) in omega (arith, same)

-- the head was read, and then the rest of the test
pub test_then : {s0 s1 s2 : Seen} {result : Result Bool StackError} (l : Layout) (a head : ℕ)
    → Consults {E = StackError} l stack_fault 1 s0 s1 (λ m. threads_head l m a) (Ok head)
    → Consults l stack_fault (cost_from l (byte_at s1.pieces) a head) s1 s2 (λ m. Ok (passes_from l m a head)) result
    → Consults l stack_fault (test_cost l (byte_at s0.pieces) a) s0 s2 (λ m. Ok (passes l m a)) result
test_then {s0 = s0} {result = result} l a head r w =
    let budget = cost_split l (byte_at s0.pieces) a head (reading_here r).is in
    reads_within _ (reading_then (λ m. Answers stack_fault (Ok (passes l m a)) result) r w (λ m x y. rw (passes_split l m a head x.is) y)) (rw r.pieces budget)

-- the bound, in the numbers of threads and members that are met
walk_within : (l : Layout) (m : Memory) (a : ℕ) (d : Found ℕ)
    → where_named (traces_cost nothing l m a) a d ≤ 1 + 2 * where_named (threads_met nothing l m a) a d + 6 * where_named (members_met nothing l m a) a d
walk_within l m a (Ok named) = elim (eqb named a) as (λ t. cond t (traces_cost nothing l m a) 0 ≤ 1 + 2 * cond t (threads_met nothing l m a) 0 + 6 * cond t (members_met nothing l m a) 0) [ true ↦ plain_bound l m a | false ↦ omega arith ]
walk_within l m a (Err f) = omega arith

pub test_within : (l : Layout) (m : Memory) (a : ℕ)
    → test_cost l m a ≤ 3 + 2 * threads_tested l m a + 6 * members_tested l m a
unfolding test_cost threads_tested members_tested
test_within l m a = omega (arith, walk_within l m a (named_at l m a))

pub from_within : (l : Layout) (m : Memory) (a head : ℕ)
    → cost_from l m a head ≤ 2 + 2 * threads_from l m a head + 6 * members_from l m a head
unfolding cost_from threads_from members_from
from_within l m a head = omega (arith, walk_within l m a (interpreter_named_by l m head))

where_most : (n most a : ℕ) (d : Found ℕ) → n ≤ most → where_named n a d ≤ most
where_most n most a (Err f) le = omega arith
where_most n most a (Ok named) le = elim (eqb named a) as (λ t. cond t n 0 ≤ most) [ true ↦ le | false ↦ omega arith ]

pub test_most : (l : Layout) (m : Memory) (a : ℕ)
    → 3 + 2 * threads_tested l m a + 6 * members_tested l m a ≤ 3 + 4096 * (2 + 6 * 16384)
unfolding threads_tested members_tested
test_most l m a =
    let threads = where_most (threads_met nothing l m a) 4096 a (named_at l m a) (threads_met_most nothing l m a) in
    let members = where_most (members_met nothing l m a) (16384 * 4096) a (named_at l m a) (members_met_most nothing l m a) in
    omega (arith, threads, members)

pub from_most : (l : Layout) (m : Memory) (a head : ℕ)
    → 2 + 2 * threads_from l m a head + 6 * members_from l m a head ≤ 2 + 4096 * (2 + 6 * 16384)
unfolding threads_from members_from
from_most l m a head =
    let named = interpreter_named_by l m head in
    let threads = where_most (threads_met nothing l m a) 4096 a named (threads_met_most nothing l m a) in
    let members = where_most (members_met nothing l m a) (16384 * 4096) a named (members_met_most nothing l m a) in
    omega (arith, threads, members)

-- ---- the law of the test: it passes exactly at what is an interpreter

-- what was named is the address, and its threads can be walked
record Walked (l : Layout) (m : Memory) (a : ℕ) (d : Found ℕ) : Type 0 where
  pub named : d ≡ Ok a
  pub traces : List Trace
  pub are : AreTraces nothing l m a traces

passed : (l : Layout) (m : Memory) (a : ℕ) (d : Found ℕ) → passes_named l m a d ≡ true → Walked l m a d
passed l m a (Err f) e = absurd (cc)
passed l m a (Ok i) e = same (eqb i a) refl e
  where
    walked : (d : Found (List Trace)) → traces_at nothing l m a ≡ d → was_found d ≡ true → i ≡ a → Walked l m a (Ok i)
    walked (Ok ts) is e n = record { named = ap Ok n; traces = ts; are = traces_found nothing l m a ts is }
    walked (Err f) is e n = absurd (cc)

    same : (t : Bool) → eqb i a ≡ t → cond t (was_found (traces_at nothing l m a)) false ≡ true → Walked l m a (Ok i)
    same true is e = let this : i ≡ a = grind (arith, nat_tests) in walked (traces_at nothing l m a) refl e this
    same false is e = absurd (cc)

passing : (l : Layout) (m : Memory) (a : ℕ) (d : Found ℕ) → Walked l m a d → passes_named l m a d ≡ true
passing l m a d h =
    let is : eqb a a ≡ true = grind (arith, nat_tests) in
    ap (passes_named l m a) h.named ∙ ap (λ t. cond t (was_found (traces_at nothing l m a)) false) is
    ∙ ap was_found (traces_whole nothing l m a h.traces h.are)

pub passes_law : (l : Layout) (m : Memory) (a : ℕ) (r : Result Bool StackError)
    → Answers stack_fault (Ok (passes l m a)) r → IfOk r (λ b. IsTrue b ↔ IsInterpreter l m a)
unfolding passes
passes_law l m a (Err e) h = tt
passes_law l m a (Ok b) h =
    let same : passes_named l m a (named_at l m a) ≡ b = ok_same _ b h.is in (
      λ is. let w = passed l m a (named_at l m a) (same ∙ is) in record { named = w.named; traces = w.traces; are = w.are },
      λ is. sym same ∙ passing l m a (named_at l m a) (record { named = is.named; traces = is.traces; are = is.are }),
    )

pub from_law : (l : Layout) (m : Memory) (a head : ℕ) (r : Result Bool StackError)
    → Answers stack_fault (Ok (passes_from l m a head)) r → IfOk r (λ b. IsTrue b ↔ IsInterpreterFrom l m a head)
unfolding passes_from
from_law l m a head (Err e) h = tt
from_law l m a head (Ok b) h =
    let same : passes_named l m a (interpreter_named_by l m head) ≡ b = ok_same _ b h.is in (
      λ is. let w = passed l m a (interpreter_named_by l m head) (same ∙ is) in record { named = w.named; traces = w.traces; are = w.are },
      λ is. sym same ∙ passing l m a (interpreter_named_by l m head) (record { named = is.named; traces = is.traces; are = is.are }),
    )
