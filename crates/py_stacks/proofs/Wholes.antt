-- A walk that has a whole chain within its limits, each of whose members can be read, answers it.
use Rattle.std.proofs.Common.{◌≡◌, ℕ, ◌+◌, ◌<◌, ◌≤◌, Bool, true, ltb, List, [], ◌∷◌, length, map, refl, sym, ◌∙◌, ap}
use Rattle.std.proofs.Common.{arith}
use Rattle.std.specs.Prelude.{Option, Some, None, Result, Ok, ⊤}
use Rattle.std.proofs.lemmas.Bool.Decides.{nat_tests}
use Rattle.elf64_core.specs.Fields.{u64_in}
use Rattle.process_memory.specs.Memory.{Memory, Found, ◌>>=◌, record_at, word_at}
use Rattle.process_memory.specs.Memory.Fault.{ChainLimit, ThreadLimit}
use Rattle.process_memory.specs.Walk.{Step, walk_at}
use Rattle.process_memory.proofs.Founds.{bound, ok_same}
use Rattle.process_memory.proofs.WalkSums.{FitsAll, walk_whole}
use Rattle.py_fields.specs.declared.layout.Layout.{Layout}
use Rattle.py_stacks.specs.declared.asked.Asked.{Asked}
use Rattle.py_stacks.specs.Detail.{detail_at}
use Rattle.py_stacks.specs.Member.{MemberAt}
use Rattle.py_stacks.specs.Frames.{AreFrames, Call, back_by, back_of, detailed, frame_limit, frame_step, frames_at}
use Rattle.py_stacks.specs.Frames.{kept_next, member_limit, members_at, part_by, plain_at, plain_by, records_at, shown}
use Rattle.py_stacks.specs.Frames.{shown_at, shown_by, step_by, step_part, with_detail}
use Rattle.py_stacks.specs.Threads.{AreTraces, AreTracesOf, IsTraceOf, Trace, first_frame_at, thread_after}
use Rattle.py_stacks.specs.Threads.{thread_limit, thread_step, threads_at, trace_at, trace_by, trace_of_result}
use Rattle.py_stacks.specs.Threads.{traces_at, traces_of_result}
use Rattle.std.specs.Global.{Vec}
use Rattle.process_memory.specs.Seen.{Answers}
use Rattle.py_stacks.specs.declared.trace.StackTrace.{StackTrace}
use Rattle.py_stacks.specs.declared.error.StackError.{StackError}
use Rattle.py_stacks.specs.StackError.{stack_fault}
use Rattle.py_stacks.specs.Holder.{holder_id_at}
use Rattle.py_stacks.specs.Stacks.{AreStacks, by_holder, stacks_at}
use Rattle.py_stacks.proofs.Parts.{plain_is}
use Rattle.py_stacks.proofs.ThreadLaws.{step_after}

-- ---- frames

abbrev FitsKept : ℕ → Option Call → Type 0
FitsKept kept None = ⊤
FitsKept kept (Some c) = kept < frame_limit

part_fits : (q : Asked) (l : Layout) (m : Memory) (kept : ℕ) (r : MemberAt) (p x : Option Call)
    → detailed q l m r p ≡ Ok x → FitsKept kept x → part_by q l m kept r p ≡ Ok x
part_fits q l m kept r None x e fits = e
part_fits q l m kept r (Some c) None e fits =
    let d = bound (detail_at q l m r) (λ d. Ok (Some (with_detail c d))) None e in
    let no_part : Some (with_detail c d.0) ≡ None = ok_same _ _ d.2 in absurd (cc)
part_fits q l m kept r (Some c) (Some x) e fits = let below : ltb kept 4096 ≡ true = grind (arith, nat_tests) in rw below e

frame_goes : (q : Asked) (l : Layout) (m : Memory) (kept a n : ℕ) (p : Option Call) → back_of l m a ≡ Ok n
    → shown_at q l m a ≡ Ok p → FitsKept kept p
    → frame_step q l m kept a ≡ Ok (record { next = n; state = kept_next kept p; part = p })
unfolding back_of shown_at frame_step
frame_goes q l m kept a n p back part fits =
    let one = bound (records_at l m a) (λ r. detailed q l m r (plain_by l m r)) p part in
    let is : part_by q l m kept one.0 (plain_by l m one.0) ≡ Ok p = part_fits q l m kept one.0 (plain_by l m one.0) p one.2 fits in
    let to = bound (records_at l m a) (λ r. Ok (back_by l r)) n back in
    let same : one.0 ≡ to.0 = ok_same _ _ (sym one.1 ∙ to.1) in
    let next : back_by l one.0 ≡ n = ap (back_by l) same ∙ ok_same _ n to.2 in
    join (records_at l m a) one.0 one.1 (stepped one.0 (plain_at l m one.0) (plain_is l m one.0) is next)
  where
    stepped : (r : MemberAt) (d : Found (Option Call)) → d ≡ Ok (plain_by l m r)
        → part_by q l m kept r (plain_by l m r) ≡ Ok p → back_by l r ≡ n
        → (d >>= (λ p. part_by q l m kept r p >>= (λ x. Ok (step_part l kept r x)))) ≡ Ok (record { next = n; state = kept_next kept p; part = p })
    stepped r d e f g = rw (e, f) (ap (λ i. Ok (record { next = i; state = kept_next kept p; part = p })) g)

    join : (d : Found MemberAt) (r : MemberAt) → d ≡ Ok r
        → step_by q l m kept r ≡ Ok (record { next = n; state = kept_next kept p; part = p })
        → (d >>= step_by q l m kept) ≡ Ok (record { next = n; state = kept_next kept p; part = p })
    join d r e f = rw e f

all_kept : (q : Asked) (l : Layout) (m : Memory) (last : Bool) (kept : ℕ) (parts : List (Option Call))
    → kept + length (shown_by last parts) ≤ frame_limit
    → FitsAll ChainLimit (frame_step q l m) (back_of l m) (shown_at q l m) kept_next FitsKept (frame_goes q l m) kept parts
unfolding shown_by
all_kept q l m last kept [] le = tt
all_kept q l m last kept (None ∷ ms) le = (tt, all_kept q l m last kept ms le)
all_kept q l m last kept (Some c ∷ ms) le = (omega (arith, le), all_kept q l m last (kept + 1) ms (omega (arith, le)))

pub frames_whole : (q : Asked) (l : Layout) (m : Memory) (first : ℕ) (frames : List Call)
    → AreFrames q l m first frames → frames_at q l m first ≡ Ok frames
unfolding frames_at members_at
frames_whole q l m first frames h =
    let few : 0 + length (shown_by true h.parts) ≤ frame_limit = omega (arith, h.kept, ap length h.shows) in
    let walk = walk_whole ChainLimit (frame_step q l m) (back_of l m) (shown_at q l m) kept_next FitsKept (frame_goes q l m) member_limit 0 first h.members h.parts h.chain h.each h.met (all_kept q l m true 0 h.parts few) in
    ends (walk_at ChainLimit (frame_step q l m) member_limit 0 first) h.parts walk ∙ ap Ok (sym h.shows)
  where
    ends : (d : Found (List (Option Call))) (ms : List (Option Call)) → d ≡ Ok ms
        → (d >>= (λ ms. Ok (shown ms))) ≡ Ok (shown ms)
    ends d ms e = rw e refl

-- ---- threads

made : Layout → List ℕ → List Call → Found (Step (Unit {0}) Trace)
made l thread frames = Ok (record { next = u64_in thread l.thread.next; state = tt; part = trace_by l thread frames })

join : {T U : Type 0} (d : Found T) (x : T) (f : T → Found U) (y : U) → d ≡ Ok x → f x ≡ Ok y → (d >>= f) ≡ Ok y
join d x f y e g = rw e g

-- a thread that has a trace
record IsWhole (q : Asked) (l : Layout) (m : Memory) (a : ℕ) (t : Trace) : Type 0 where
  next : ℕ
  after : thread_after l m a ≡ Ok next
  step : thread_step q l m tt a ≡ Ok (record { next = next; state = tt; part = t })

trace_whole : (q : Asked) (l : Layout) (m : Memory) (a : ℕ) (t : Trace) → IsTraceOf q l m a t → IsWhole q l m a t
unfolding thread_step thread_after made
trace_whole q l m a t h =
    let last : made l h.thread t.frames ≡ Ok (record { next = u64_in h.thread l.thread.next; state = tt; part = t }) = ap (λ t. Ok (record { next = u64_in h.thread l.thread.next; state = tt; part = t })) (sym h.fields) in
    let inner = join (frames_at q l m h.first) t.frames (made l h.thread) _ (frames_whole q l m h.first t.frames h.frames) last in
    let middle = join (first_frame_at l m h.thread) h.first (λ first. frames_at q l m first >>= made l h.thread) _ h.names inner in
    record {
      next = u64_in h.thread l.thread.next;
      after = join (record_at m a l.thread.size) h.thread _ _ h.read refl;
      step = join (record_at m a l.thread.size) h.thread (λ thread. first_frame_at l m thread >>= (λ first. frames_at q l m first >>= made l thread)) _ h.read middle;
    }

trace_step : (q : Asked) (l : Layout) (m : Memory) (a : ℕ) (t : Trace) → IsTraceOf q l m a t → trace_at q l m a ≡ Ok t
unfolding trace_at
trace_step q l m a t h = let w = trace_whole q l m a t h in join (thread_step q l m tt a) _ (λ (x : Step (Unit {0}) Trace). Ok x.part) t w.step refl

-- what is right of one thread is the answer, out of memory aside
pub trace_only : (q : Asked) (l : Layout) (m : Memory) (a : ℕ) (r : Result StackTrace StackError)
    → Answers stack_fault (trace_at q l m a) (trace_of_result r) → (t : Trace) → IsTraceOf q l m a t
    → Answers stack_fault (Ok t) (trace_of_result r)
trace_only q l m a r h t is = let same = trace_step q l m a t is in rw same at h

step_is : (d : Found (Step (Unit {0}) Trace)) (x : Step (Unit {0}) Trace) (n : ℕ) (t : Trace) → d ≡ Ok x → x.next ≡ n
    → x.part ≡ t
    → d ≡ Ok (record { next = n; state = tt; part = t })
step_is d x n t e next part = rw (sym next, sym part) e

-- a step is what the thread is: the thread after it, and its trace
thread_goes : (q : Asked) (l : Layout) (m : Memory) (s : Unit {0}) (a n : ℕ) (t : Trace) → thread_after l m a ≡ Ok n
    → trace_at q l m a ≡ Ok t → ⊤
    → thread_step q l m s a ≡ Ok (record { next = n; state = tt; part = t })
unfolding trace_at
thread_goes q l m s a n t after trace u =
    let x = bound (thread_step q l m s a) (λ (x : Step (Unit {0}) Trace). Ok x.part) t trace in
    step_is (thread_step q l m s a) x.0 n t x.1 (ok_same x.0.next n (sym (step_after q l m s a x.0 x.1) ∙ after)) (ok_same x.0.part t x.2)

traces_each : (q : Asked) (l : Layout) (m : Memory) (threads : List ℕ) (traces : List Trace)
    → AreTracesOf q l m threads traces → map (trace_at q l m) threads ≡ map Ok traces
traces_each q l m [] [] h = refl
traces_each q l m [] (t ∷ ts) h = absurd h
traces_each q l m (a ∷ rest) [] h = absurd h
traces_each q l m (a ∷ rest) (t ∷ ts) h = rw (trace_step q l m a t h.0, traces_each q l m rest ts h.1) refl

all_fit : (q : Asked) (l : Layout) (m : Memory) (s : Unit {0}) (traces : List Trace)
    → FitsAll ThreadLimit (thread_step q l m) (thread_after l m) (trace_at q l m) (λ s t. tt) (λ s t. ⊤) (thread_goes q l m) s traces
all_fit q l m s [] = tt
all_fit q l m s (t ∷ ts) = (tt, all_fit q l m tt ts)

pub traces_whole : (q : Asked) (l : Layout) (m : Memory) (interpreter : ℕ) (traces : List Trace)
    → AreTraces q l m interpreter traces → traces_at q l m interpreter ≡ Ok traces
unfolding traces_at threads_at
traces_whole q l m interpreter traces h =
    let walk = walk_whole ThreadLimit (thread_step q l m) (thread_after l m) (trace_at q l m) (λ s t. tt) (λ s t. ⊤) (thread_goes q l m) thread_limit tt h.head h.threads traces h.chain (traces_each q l m h.threads traces h.each) h.within (all_fit q l m tt traces) in
    join (word_at m (interpreter + l.interpreter.threads)) h.head _ traces h.names walk

-- ---- stacks

pub stacks_whole : (q : Asked) (l : Layout) (m : Memory) (lock interpreter : ℕ) (traces : List Trace)
    → AreStacks q l m lock interpreter traces → stacks_at q l m lock interpreter ≡ Ok traces
unfolding stacks_at
stacks_whole q l m lock interpreter traces h =
    let inner = join (traces_at q l m interpreter) h.unmarked (λ ts. Ok (map (by_holder h.holder_id) ts)) traces (traces_whole q l m interpreter h.unmarked h.threads) (ap Ok (sym h.marks)) in
    join (holder_id_at l m lock) h.holder_id (λ holder_id. traces_at q l m interpreter >>= (λ ts. Ok (map (by_holder holder_id) ts))) traces h.held inner

-- what is right is the answer, out of memory aside
pub stacks_only : (q : Asked) (l : Layout) (m : Memory) (lock interpreter : ℕ) (r : Result (Vec StackTrace) StackError)
    → Answers stack_fault (stacks_at q l m lock interpreter) (traces_of_result r) → (traces : List Trace)
    → AreStacks q l m lock interpreter traces → Answers stack_fault (Ok traces) (traces_of_result r)
stacks_only q l m lock interpreter r a traces h = let is = stacks_whole q l m lock interpreter traces h in rw is at a
