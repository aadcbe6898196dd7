-- What reading a thread costs.
use Rattle.std.proofs.Common.{◌≡◌, ℕ, ◌+◌, ◌≤◌, List, ap, arith}
use Rattle.std.specs.Prelude.{Option, Some, None, Ok}
use Rattle.elf64_core.specs.Fields.{u64_in}
use Rattle.process_memory.specs.Memory.{Memory, Fault, byte_at, record_at, word_at}
use Rattle.process_memory.specs.Seen.{Seen, ReadsOf}
use Rattle.process_memory.specs.declared.memory.Span.{Span}
use Rattle.process_memory.proofs.Reading.{reading_here}
use Rattle.py_fields.specs.declared.layout.CframeAt.{CframeAt}
use Rattle.py_fields.specs.declared.layout.Layout.{Layout}
use Rattle.py_stacks.specs.declared.asked.Asked.{Asked}
use Rattle.py_stacks.specs.Frames.{frames_cost}
use Rattle.py_stacks.specs.Threads.{first_frame_at, frame_through, thread_cost, thread_frames_cost, threads_cost}
use Rattle.py_stacks.specs.Threads.{traces_cost}

pub thread_costs_one : (q : Asked) (l : Layout) (m : Memory) (t : ℕ) → 1 ≤ thread_cost q l m tt t
unfolding thread_cost
thread_costs_one q l m t = omega arith

pub thread_costs : (q : Asked) (l : Layout) (m : Memory) (t : ℕ) → 2 ≤ thread_cost q l m tt t
unfolding thread_cost
thread_costs q l m t = omega arith

-- a thread that names its first frame itself
pub first_named : (l : Layout) (m : Memory) (thread : List ℕ) → l.cframe ≡ None
    → first_frame_at l m thread ≡ Ok (u64_in thread l.thread.frame)
unfolding first_frame_at
first_named l m thread e = ap (λ c. frame_through c m (u64_in thread l.thread.frame)) e

-- one that names a C frame, which names it
pub first_through : (l : Layout) (m : Memory) (thread : List ℕ) (at : CframeAt) → l.cframe ≡ Some at
    → first_frame_at l m thread ≡ word_at m (u64_in thread l.thread.frame + at.current)
unfolding first_frame_at
first_through l m thread at e = ap (λ c. frame_through c m (u64_in thread l.thread.frame)) e

pub traces_costs : (q : Asked) (l : Layout) (m : Memory) (t : ℕ) → 1 ≤ traces_cost q l m t
unfolding traces_cost
traces_costs q l m t = omega arith

module _ {a1 a2 : Memory → Span → Type 0} {E E' : Type 0} {fault : E → Option Fault} {fault' : E' → Option Fault} {s0 s1 s2 : Seen} where
  -- the frames' reads are counted in the thread's
  pub thread_budget : (q : Asked) (l : Layout) (t : ℕ) (thread : List ℕ) (first : ℕ)
      → ReadsOf {E = E} a1 fault 1 s0 s1 (λ m. record_at m t l.thread.size) (Ok thread)
      → ReadsOf {E = E'} a2 fault' 1 s1 s2 (λ m. first_frame_at l m thread) (Ok first)
      → 1 + (1 + frames_cost q l (byte_at s2.pieces) first) ≤ thread_cost q l (byte_at s0.pieces) tt t
  unfolding thread_cost thread_frames_cost
  thread_budget q l t thread first r s =
      let one = (reading_here r).is in
      let two : first_frame_at l (byte_at s0.pieces) thread ≡ Ok first = rw r.pieces at (reading_here s).is in
      rw (s.pieces, r.pieces, one, two) (omega arith)

-- the threads' reads are counted in the interpreter's
pub traces_budget : {allowed : Memory → Span → Type 0} {E : Type 0} {fault : E → Option Fault} {s0 s1 : Seen} (q : Asked) (l : Layout) (interpreter head : ℕ)
    → ReadsOf {E = E} allowed fault 1 s0 s1 (λ m. word_at m (interpreter + l.interpreter.threads)) (Ok head)
    → 1 + threads_cost q l (byte_at s1.pieces) head ≤ traces_cost q l (byte_at s0.pieces) interpreter
unfolding traces_cost
traces_budget q l interpreter head r =
    let one = (reading_here r).is in
    rw (r.pieces, one) (omega arith)
