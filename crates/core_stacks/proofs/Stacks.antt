-- The stacks of what was found, over each memory that covers what was read.
use Rattle.std.proofs.Common.{◌≡◌, ◌≤◌, ◌+◌, ◌∙◌, ℕ, List, refl, subst, sym}
use Rattle.std.specs.Prelude.{None, Result, Ok, Err}
use Rattle.process_memory.specs.Layers.{plain}
use Rattle.process_memory.specs.Memory.{Memory, Region, byte_at}
use Rattle.process_memory.proofs.Reading.{reading_here}
use Rattle.process_memory.specs.declared.memory.Span.{Span}
use Rattle.process_memory.specs.Seen.{ReadingOf, Seen}
use Rattle.py_builtins.specs.Consulted.{Consulting}
use Rattle.process_memory.specs.Faults.{IsFirst}
use Rattle.py_stacks.specs.StackError.{stack_fault}
use Rattle.py_stacks.specs.StacksOver.{AreStacksOver}
use Rattle.py_stacks.specs.Threads.{Trace}
use Rattle.py_stacks.specs.declared.config.Config.{Config}
use Rattle.py_stacks.specs.declared.error.StackError.{StackError}
use Rattle.py_process.specs.Causes.{cause_of_stacks}
use Rattle.py_process.specs.Findings.{Finding}
use Rattle.py_process.specs.Reports.{AsksNoOther, StacksSay, fault_on}
use Rattle.py_process.specs.declared.core_error.CoreError.{CoreError}
use Rattle.py_process.proofs.StackCauses.{stack_fails}

-- another count of the reads, and what follows from two facts
pub reading_both : {allowed : Memory → Span → Type 0} {n k j : ℕ} {s0 s1 : Seen} {P Q : Memory → Type 0} (R : Memory → Type 0) → ReadingOf allowed n s0 s1 P → ReadingOf allowed k s0 s1 Q
    → s1.reads ≤ s0.reads + j → ((m : Memory) → P m → Q m → R m) → ReadingOf allowed j s0 s1 R
reading_both R p q cost f = record {
  pieces = p.pieces;
  counter = p.counter;
  memory = p.memory;
  ranges = p.ranges;
  here = p.here;
  only = p.only;
  cost = cost;
  holds = λ m c. f m (p.holds m c) (q.holds m c);
}

module _ {n j : ℕ} {s0 s1 : Seen} (f : Finding) (config : Config) (asks : AsksNoOther config) where
  pub stacks_found : {k : ℕ} (traces : List Trace) → Consulting f.layout n s0 s1 (λ m. fault_on m f config ≡ None)
      → Consulting f.layout k s0 s1 (λ m. AreStacksOver config f.layout m f.addresses.lock f.addresses.interpreter traces) → s1.reads ≤ s0.reads + j
      → Consulting f.layout j s0 s1 (λ m. StacksSay m f config (Ok traces))
  stacks_found traces faults are cost =
      reading_both _ faults are cost (λ m none is. record { asks = asks; faultless = none; are = is })

  pub stacks_lost : (e : StackError) (error : CoreError) (r : Result (List Trace) CoreError) → error ≡ cause_of_stacks e
      → Consulting f.layout n s0 s1 (λ m. IsFirst (fault_on m f config) (stack_fault e)) → r ≡ Err error → s1.reads ≤ s0.reads + j
      → Consulting f.layout j s0 s1 (λ m. StacksSay m f config r)
  stacks_lost e error r cause faults is cost =
      reading_both _ faults faults cost (λ m first again. stack_fails m m f config e error r asks refl cause first is)

-- where the ranges aren't kept, a memory with the same bytes covers what was read
pub over_same : {allowed : Memory → Span → Type 0} {n : ℕ} {s0 s1 : Seen} {Q : Memory → Type 0} (pieces : List Region) (m : Memory) → s0 ≡ plain pieces
    → ((a : ℕ) → m a ≡ byte_at pieces a) → ReadingOf allowed n s0 s1 Q → Q m
over_same pieces m from same r =
    let r' = rw from at r in
    r'.holds m (record { agrees = λ a b is. sym (same a) ∙ is; holds = λ a some. rw (same a) some })

-- what is read of a memory is right over it
pub over_this : {allowed : Memory → Span → Type 0} {n : ℕ} {s0 s1 : Seen} {Q : Memory → Type 0} (pieces : List Region) → s0.pieces ≡ pieces
    → ReadingOf allowed n s0 s1 Q → Q (byte_at pieces)
over_this {Q = Q} pieces same r = subst (λ ps. Q (byte_at ps)) same (reading_here r)
