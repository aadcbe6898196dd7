-- Steps of readers that answer a value, or out of memory.
use Rattle.std.proofs.Common.{◌≡◌, ◌≢◌, ℕ, ◌+◌, ◌≤◌, Bool, true, false, not, List, refl, ◌∙◌, arith}
use Rattle.std.specs.Prelude.{Ok, Err, Result, nat_eq}
use Rattle.elf64_core.specs.Fields.{u64_in}
use Rattle.process_memory.specs.Memory.{Found, Memory}
use Rattle.process_memory.specs.Memory.Fault.{Missing}
use Rattle.process_memory.specs.declared.memory.ReadFault.{ReadFault}
use Rattle.process_memory.specs.declared.memory.ReadFault.TheVariants as read
use Rattle.process_memory.specs.declared.memory.Span.{Span}
use Rattle.process_memory.specs.Seen.{FaultIs, ReadingOf, Seen, read_fault}
use Rattle.process_memory.proofs.Reading.{reading_gives, reading_then}
use Rattle.py_fields.specs.declared.layout.Layout.{Layout}
use Rattle.py_builtins.specs.Texts.{text_at}
use Rattle.py_stacks.specs.Frames.{back_of, records_at}
use Rattle.py_stacks.specs.Member.{MemberAt}
use Rattle.py_stacks.specs.StackError.{stack_fault}
use Rattle.py_stacks.specs.declared.error.StackError.{StackError}
use Rattle.py_stacks.specs.declared.error.StackError.TheVariants as stack
use Rattle.py_fronts.specs.declared.chain_end.ChainEnd.TheVariants as seen
use Rattle.py_fronts.specs.declared.members.Step.{Step}
use Rattle.py_fronts.specs.declared.members.Step.TheVariants.{To}
use Rattle.py_fronts.specs.declared.thread_front.Thread.TheVariants.{Broken}
use Rattle.py_fronts.specs.Answers.{IsOrNoMemory}
use Rattle.py_fronts.specs.Front.Break.{Lost, Stray}
use Rattle.py_fronts.specs.Members.{StepIs, StopsBy, caller_of, hides, is_kept, is_left_out}
use Rattle.py_fronts.specs.ThreadFronts.{RecordIs, ThreadIs}

-- memory was wanting behind other readers, or at the first
pub lost_then : {allowed : Memory → Span → Type 0} {n k : ℕ} {s0 s1 s2 : Seen} {P : Memory → Type 0} (t : ℕ) {e f : StackError} → ReadingOf allowed n s0 s1 P → ReadingOf allowed k s1 s2 (λ m. f ≡ stack.OutOfMemory) → e ≡ f → n + k ≤ t
    → ReadingOf allowed t s0 s2 (λ m. e ≡ stack.OutOfMemory)
lost_then t {e} p q same le = reading_gives t _ (reading_then (λ m. e ≡ stack.OutOfMemory) p q (λ m a b. same ∙ b)) le (λ m h. h)

pub lost_first : {allowed : Memory → Span → Type 0} {k : ℕ} {s0 s1 : Seen} (t : ℕ) {e f : StackError} → ReadingOf allowed k s0 s1 (λ m. f ≡ stack.OutOfMemory) → e ≡ f → k ≤ t → ReadingOf allowed t s0 s1 (λ m. e ≡ stack.OutOfMemory)
lost_first t p same le = reading_gives t _ p le (λ m b. same ∙ b)

-- two readers, one after another, and what both say
pub reading_both : {allowed : Memory → Span → Type 0} {n k : ℕ} {s0 s1 s2 : Seen} {P Q : Memory → Type 0} → ReadingOf allowed n s0 s1 P → ReadingOf allowed k s1 s2 Q → ReadingOf allowed (n + k) s0 s2 (λ m. P m × Q m)
reading_both {P = P} {Q = Q} p q = reading_then (λ m. P m × Q m) p q (λ m a b. (a, b))

-- ---- members

pub left_at_null : (l : Layout) (m : Memory) (r : MemberAt) → u64_in r.code l.code.filename ≡ 0 → true ≡ is_left_out l m r
unfolding is_left_out
left_at_null l m r e = rw e refl

some_eq : (n : ℕ) → n ≢ 0 → nat_eq n 0 ≡ false
some_eq n some = grind arith

left_by_text : (l : Layout) (m : Memory) (r : MemberAt) (at : ℕ) (result : Bool) → at ≡ u64_in r.code l.code.filename → at ≢ 0 → result ≡ hides (text_at l m at) → result ≡ is_left_out l m r
unfolding is_left_out
left_by_text l m r at result same some e =
    let no_null : nat_eq (u64_in r.code l.code.filename) 0 ≡ false = rw (← same) (some_eq at some) in
    rw (no_null, ← same) e

pub left_or_lost : (l : Layout) (m : Memory) (r : MemberAt) (at : ℕ) (result : Result Bool StackError) → at ≡ u64_in r.code l.code.filename → at ≢ 0 → IsOrNoMemory (hides (text_at l m at)) result
    → IsOrNoMemory (is_left_out l m r) result
left_or_lost l m r at (Ok hidden) same some h = left_by_text l m r at hidden same some h
left_or_lost l m r at (Err e) same some h = h

pub step_to : (l : Layout) (m : Memory) (a : ℕ) (r : MemberAt) (left_out : Bool) (back : ℕ) → records_at l m a ≡ Ok r → left_out ≡ is_left_out l m r → back ≡ u64_in r.frame l.frame.back
    → StepIs (caller_of l m a) (is_kept l m a) (Ok (To back (not left_out)))
unfolding back_of is_kept
step_to l m a r left_out back e is same = (rw (e, same) refl, rw (e, is) refl)

pub step_lost : (l : Layout) (m : Memory) (a : ℕ) (e : StackError) (result : Result Step StackError) → FaultIs (records_at l m a) (stack_fault e) → StopsBy e result
    → StepIs (caller_of l m a) (is_kept l m a) result
unfolding back_of
step_lost l m a (stack.Unreadable addr len) result d is = rw is (Lost (Missing addr len), rw d refl, refl)
step_lost l m a (stack.BadValue frame) result d is = rw is refl
step_lost l m a (stack.LocalsLimit count) result d is = rw is refl
step_lost l m a stack.ThreadLimit result d is = rw is refl
step_lost l m a stack.FrameLimit result d is = rw is refl
step_lost l m a stack.ChainLimit result d is = rw is refl
step_lost l m a stack.OutOfMemory result d is = rw is refl

-- ---- threads

pub other_eq : (a b : ℕ) → a ≢ b → nat_eq a b ≡ false
other_eq a b other = grind arith

pub stray_record : (l : Layout) (i : ℕ) (bytes : List ℕ) (named : ℕ) → named ≡ u64_in bytes l.thread.interp → nat_eq named i ≡ false → RecordIs l i bytes (Broken (seen.Stray named))
stray_record l i bytes named is other = (Stray named, rw (← is, other) refl, refl)

pub thread_lost : (l : Layout) (i : ℕ) (d : Found (List ℕ)) (e : ReadFault) (addr len : ℕ) → e ≡ read.Unreadable addr len → FaultIs d (read_fault e)
    → ThreadIs l i d (Ok (Broken (seen.Unreadable addr len)))
thread_lost l i d e addr len is h =
    let missing = rw is at h in
    (Lost (Missing addr len), rw missing refl, refl)
