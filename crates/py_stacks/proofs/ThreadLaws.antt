-- What the walk along an interpreter's threads says in the subject's own words: the whole chain, and the first
-- fault.
use Rattle.std.proofs.Common.{◌≡◌, ℕ, ◌+◌, List, [], ◌∷◌, map, refl, sym, ◌∙◌, ap, subst}
use Rattle.std.specs.Prelude.{Result, Ok, Err, IfOk}
use Rattle.elf64_core.specs.Fields.{u64_in}
use Rattle.process_memory.specs.Memory.{Memory, Found, ◌>>=◌, record_at, word_at}
use Rattle.process_memory.specs.Memory.Fault.{ThreadLimit}
use Rattle.process_memory.specs.Seen.{Answers}
use Rattle.process_memory.specs.Walk.{Step, first_fault, fault_in}
use Rattle.process_memory.specs.Faults.{FaultsAre}
use Rattle.process_memory.proofs.Founds.{bound, ok_same}
use Rattle.process_memory.proofs.Walks.{walk_chain, walk_first_fault, faults_from_answer, then_same}
use Rattle.py_fields.specs.declared.layout.Layout.{Layout}
use Rattle.py_stacks.specs.declared.asked.Asked.{Asked}
use Rattle.py_stacks.specs.declared.trace.StackTrace.{StackTrace}
use Rattle.py_stacks.specs.declared.error.StackError.{StackError}
use Rattle.py_stacks.specs.StackError.{stack_fault}
use Rattle.py_stacks.specs.Frames.{AreFrames, Call, frames_at}
use Rattle.py_stacks.specs.Threads.{AreTraces, AreTracesOf, IsTraceOf, Trace, first_frame_at, thread_after}
use Rattle.py_stacks.specs.Threads.{thread_faults, thread_limit, thread_next, thread_step, threads_at, trace_at}
use Rattle.py_stacks.specs.Threads.{trace_by, trace_of, trace_of_result, traces_at, traces_faults}
use Rattle.py_stacks.proofs.FrameLaws.{frames_found, frames_same}

-- what a thread is, by its parts
record HasParts (q : Asked) (l : Layout) (m : Memory) (a : ℕ) (x : Step (Unit {0}) Trace) : Type 0 where
  thread : List ℕ
  read : record_at m a l.thread.size ≡ Ok thread
  first : ℕ
  names : first_frame_at l m thread ≡ Ok first
  frames : List Call
  walked : frames_at q l m first ≡ Ok frames
  next : u64_in thread l.thread.next ≡ x.next
  trace : trace_by l thread frames ≡ x.part

thread_parts : (q : Asked) (l : Layout) (m : Memory) (s : Unit {0}) (a : ℕ) (x : Step (Unit {0}) Trace)
    → thread_step q l m s a ≡ Ok x → HasParts q l m a x
unfolding thread_step
thread_parts q l m s a x e =
    let thread = bound (record_at m a l.thread.size) _ x e in
    let first = bound (first_frame_at l m thread.0) _ x thread.2 in
    let frames = bound (frames_at q l m first.0) _ x first.2 in
    let same = ok_same _ x frames.2 in
    record {
      thread = thread.0;
      read = thread.1;
      first = first.0;
      names = first.1;
      frames = frames.0;
      walked = frames.1;
      next = ap (λ (y : Step (Unit {0}) Trace). y.next) same;
      trace = ap (λ (y : Step (Unit {0}) Trace). y.part) same;
    }

trace_is : (q : Asked) (l : Layout) (m : Memory) (a : ℕ) (x : Step (Unit {0}) Trace) → HasParts q l m a x
    → IsTraceOf q l m a x.part
trace_is q l m a x h =
    let frames : h.frames ≡ x.part.frames = ap (λ (t : Trace). t.frames) h.trace in
    record {
      thread = h.thread;
      read = h.read;
      first = h.first;
      names = h.names;
      fields = sym h.trace ∙ ap (trace_by l h.thread) frames;
      frames = subst (AreFrames q l m h.first) frames (frames_found q l m h.first h.frames h.walked);
    }

parts_after : (q : Asked) (l : Layout) (m : Memory) (a : ℕ) (x : Step (Unit {0}) Trace) → HasParts q l m a x
    → thread_after l m a ≡ Ok x.next
unfolding thread_after
parts_after q l m a x h = after (record_at m a l.thread.size) h.thread h.read ∙ ap Ok h.next
  where
    after : (d : Found (List ℕ)) (thread : List ℕ) → d ≡ Ok thread
        → (d >>= (λ thread. Ok (u64_in thread l.thread.next))) ≡ Ok (u64_in thread l.thread.next)
    after d thread e = rw e refl

pub step_after : (q : Asked) (l : Layout) (m : Memory) (s : Unit {0}) (a : ℕ) (x : Step (Unit {0}) Trace)
    → thread_step q l m s a ≡ Ok x → thread_after l m a ≡ Ok x.next
step_after q l m s a x e = parts_after q l m a x (thread_parts q l m s a x e)

part_after : (d : Found (Step (Unit {0}) Trace)) (x : Step (Unit {0}) Trace) → d ≡ Ok x
    → (d >>= (λ (y : Step (Unit {0}) Trace). Ok y.part)) ≡ Ok x.part
part_after d x e = rw e refl

step_trace : (q : Asked) (l : Layout) (m : Memory) (s : Unit {0}) (a : ℕ) (x : Step (Unit {0}) Trace)
    → thread_step q l m s a ≡ Ok x → trace_at q l m a ≡ Ok x.part
unfolding trace_at thread_step
step_trace q l m s a x e = part_after (thread_step q l m tt a) x e

-- the trace of a thread is that of its whole chain of frames
pub trace_found : (q : Asked) (l : Layout) (m : Memory) (a : ℕ) (trace : Trace) → trace_at q l m a ≡ Ok trace
    → IsTraceOf q l m a trace
unfolding trace_at
trace_found q l m a trace e =
    let x = bound (thread_step q l m tt a) (λ (y : Step (Unit {0}) Trace). Ok y.part) trace e in
    subst (IsTraceOf q l m a) (ok_same _ trace x.2) (trace_is q l m a x.0 (thread_parts q l m tt a x.0 x.1))

traces_each : (q : Asked) (l : Layout) (m : Memory) (threads : List ℕ) (traces : List Trace)
    → map (trace_at q l m) threads ≡ map Ok traces → AreTracesOf q l m threads traces
traces_each q l m [] [] e = tt
traces_each q l m [] (t ∷ ts) e = absurd (cc)
traces_each q l m (a ∷ rest) [] e = absurd (cc)
traces_each q l m (a ∷ rest) (t ∷ ts) e =
    let here : trace_at q l m a ≡ Ok t = cc in
    let others : map (trace_at q l m) rest ≡ map Ok ts = cc in
    (trace_found q l m a t here, traces_each q l m rest ts others)

pub traces_found : (q : Asked) (l : Layout) (m : Memory) (interpreter : ℕ) (traces : List Trace)
    → traces_at q l m interpreter ≡ Ok traces → AreTraces q l m interpreter traces
unfolding traces_at threads_at
traces_found q l m interpreter traces e =
    let head = bound (word_at m (interpreter + l.interpreter.threads)) _ traces e in
    let chain = walk_chain ThreadLimit (thread_step q l m) (thread_after l m) (trace_at q l m)
    (λ s a x e. parts_after q l m a x (thread_parts q l m s a x e)) (step_trace q l m) thread_limit tt head.0 traces head.2 in
    record {
      head = head.0;
      names = head.1;
      threads = chain.members;
      chain = chain.chain;
      each = traces_each q l m chain.members traces chain.each;
      within = chain.within;
    }

-- ---- the first fault

from_inner : {T U : Type 0} (d : Found T) (f : T → U) → fault_in d ≡ fault_in (d >>= (λ x. Ok (f x)))
from_inner (Ok x) f = refl
from_inner (Err e) f = refl

thread_same : (q : Asked) (l : Layout) (m : Memory) (s : Unit {0}) (a : ℕ)
    → first_fault (thread_faults q l m s a) ≡ fault_in (thread_step q l m s a)
unfolding thread_faults thread_step
thread_same q l m s a =
    then_same (record_at m a l.thread.size) _ _
    (λ thread. then_same (first_frame_at l m thread) _ _
    (λ first. frames_same q l m first ∙ from_inner (frames_at q l m first) _))

pub trace_same : (q : Asked) (l : Layout) (m : Memory) (a : ℕ)
    → first_fault (thread_faults q l m tt a) ≡ fault_in (trace_at q l m a)
unfolding trace_at
trace_same q l m a = thread_same q l m tt a ∙ from_inner (thread_step q l m tt a) (λ (y : Step (Unit {0}) Trace). y.part)

leads : (l : Layout) (d : Found (List ℕ)) (thread : List ℕ) → d ≡ Ok thread
    → ◌>>=◌ {U = ℕ × Unit {0}} d (λ thread. Ok (u64_in thread l.thread.next, tt)) ≡ Ok (u64_in thread l.thread.next, tt)
leads l d thread e = rw e refl

thread_leads : (q : Asked) (l : Layout) (m : Memory) (s : Unit {0}) (a : ℕ) (x : Step (Unit {0}) Trace)
    → thread_step q l m s a ≡ Ok x → thread_next l m s a ≡ Ok (x.next, x.state)
unfolding thread_next
thread_leads q l m s a x e =
    let parts = thread_parts q l m s a x e in
    leads l (record_at m a l.thread.size) parts.thread parts.read ∙ ap (λ n. Ok (n, tt)) parts.next

pub traces_same : (q : Asked) (l : Layout) (m : Memory) (interpreter : ℕ)
    → first_fault (traces_faults q l m interpreter) ≡ fault_in (traces_at q l m interpreter)
unfolding traces_faults traces_at threads_at
traces_same q l m interpreter =
    then_same (word_at m (interpreter + l.interpreter.threads)) _ _
    (λ head. walk_first_fault ThreadLimit (thread_step q l m) (thread_next l m) (thread_faults q l m) (thread_same q l m) (thread_leads q l m) thread_limit tt head)

-- ---- the laws of one thread

pub trace_law : (q : Asked) (l : Layout) (m : Memory) (a : ℕ) (r : Result StackTrace StackError)
    → Answers stack_fault (trace_at q l m a) (trace_of_result r) → IfOk r (λ t. IsTraceOf q l m a (trace_of t))
trace_law q l m a (Err e) h = tt
trace_law q l m a (Ok t) h = trace_found q l m a (trace_of t) h.is

pub trace_faults_law : (q : Asked) (l : Layout) (m : Memory) (a : ℕ) (r : Result StackTrace StackError)
    → Answers stack_fault (trace_at q l m a) (trace_of_result r)
    → FaultsAre stack_fault (first_fault (thread_faults q l m tt a)) r
trace_faults_law q l m a (Ok t) h = faults_from_answer stack_fault (trace_at q l m a) _ (Ok (trace_of t)) (trace_same q l m a) h
trace_faults_law q l m a (Err e) h = faults_from_answer {T = Trace} stack_fault (trace_at q l m a) _ (Err e) (trace_same q l m a) h
