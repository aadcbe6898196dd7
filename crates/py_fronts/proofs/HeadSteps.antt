-- Interpreters by their first threads, and whether a chain of threads is whole.
use Rattle.std.proofs.Common.{◌≡◌, ◌≢◌, ℕ, zero, suc, ◌+◌, ◌-◌, ◌<◌, ◌≤◌, Bool, true, false, List, [], ◌∷◌, ◌++◌, refl}
use Rattle.std.proofs.Common.{sym, ◌∙◌, ap, arith, length, length-append}
use Rattle.std.proofs.Math.Nat.{sub-zero}
use Rattle.std.specs.Prelude.{MatchOption, Ok, Err, Option, Some, None, Result, nat_eq, if◌then◌else◌, Vec}
use Rattle.std.specs.Global.{Global}
use Rattle.elf64_core.specs.Fields.{u64_in}
use Rattle.process_memory.specs.Memory.{Found, Memory, ◌>>=◌, byte_at, record_at, Fault}
use Rattle.process_memory.specs.Seen.{Reading, ReadingBy, Seen, Answers, FaultIs}
use Rattle.process_memory.proofs.Reading.{reading_gives, reading_here, reading_none, reading_then}
use Rattle.py_fields.specs.declared.layout.Layout.{Layout}
use Rattle.py_stacks.specs.Interpreter.{interpreter_named_by, threads_head}
use Rattle.py_stacks.specs.StackError.{stack_fault}
use Rattle.py_stacks.specs.Threads.{thread_limit}
use Rattle.py_stacks.specs.declared.error.StackError.{StackError}
use Rattle.py_stacks.specs.declared.error.StackError.TheVariants as stack
use Rattle.py_fronts.specs.declared.chain_end.ChainEnd.{ChainEnd}
use Rattle.py_fronts.specs.declared.thread_front.Thread.{Thread}
use Rattle.py_fronts.specs.declared.thread_front.Thread.TheVariants.{At, Broken}
use Rattle.py_fronts.specs.Answers.{IsOrNoMemory}
use Rattle.py_fronts.specs.ChainEnds.{ending_of}
use Rattle.py_fronts.specs.Front.{Break, Ending, Front, front_at}
use Rattle.py_fronts.specs.Front.Break.{Stray}
use Rattle.py_fronts.specs.Front.Ending.{Whole, Cut}
use Rattle.py_fronts.specs.Interpreters.{Chaining, HeadIs, Walked, headed_at, headed_by, names_it, walked_of}
use Rattle.py_fronts.specs.ThreadFronts.{ThreadIs, after_record, thread_of, threads_front}
use Rattle.py_fronts.proofs.FrontLaws.{behind_ends, behind_more, front_end, front_full, front_stop}

test_true : (b : Bool) (next x named : ℕ) → ◌≡◌ {A = Result ℕ Break} (if b then Ok next else Err (Stray named)) (Ok x) → b ≡ true
test_true true next x named e = refl
test_true false next x named e = absurd (cc)

test_false : (b : Bool) (next named : ℕ) (why : Break) → ◌≡◌ {A = Result ℕ Break} (if b then Ok next else Err (Stray named)) (Err why) → b ≡ false
test_false false next named why e = refl
test_false true next named why e = absurd (cc)

names_by : (l : Layout) (i head : ℕ) (d : Found (List ℕ)) (thread : Thread) (r : Option ℕ) → ThreadIs l i d (Ok thread) → HeadIs head thread r → r ≡ names_it i head (d >>= (λ thread. Ok (u64_in thread l.thread.interp)))
names_by l i head (Ok bytes) (At t) r h is =
    let yes_it : nat_eq (u64_in bytes l.thread.interp) i ≡ true = test_true (nat_eq (u64_in bytes l.thread.interp) i) (u64_in bytes l.thread.next) _ (u64_in bytes l.thread.interp) h.1 in
    rw (is, yes_it) refl
names_by l i head (Ok bytes) (Broken end) r h is =
    let not_it : nat_eq (u64_in bytes l.thread.interp) i ≡ false = test_false (nat_eq (u64_in bytes l.thread.interp) i) (u64_in bytes l.thread.next) (u64_in bytes l.thread.interp) h.0 h.1 in
    rw (is, not_it) refl
names_by l i head (Err f) (At t) r h is = absurd (let e = h.0 in cc)
names_by l i head (Err f) (Broken end) r h is = is

pub names_head : (l : Layout) (m : Memory) (i head : ℕ) (thread : Thread) (r : Option ℕ) → ThreadIs l i (record_at m head l.thread.size) (Ok thread) → HeadIs head thread r → r ≡ names_it i head (interpreter_named_by l m head)
unfolding interpreter_named_by
names_head l m i head thread r h is = names_by l i head (record_at m head l.thread.size) thread r h is

pub thread_headed : (contains : ℕ → Bool) (l : Layout) (m : Memory) (a head : ℕ) (r : Result (Option ℕ) StackError) → threads_head l m a ≡ Ok head → head ≢ 0 → contains head ≡ true
    → IsOrNoMemory (names_it a head (interpreter_named_by l m head)) r → IsOrNoMemory (headed_by contains l m a (threads_head l m a)) r
thread_headed contains l m a zero r e some lies h = absurd (some refl)
thread_headed contains l m a (suc head) r e some lies h = rw (e, lies) h

-- where the first thread can't be read, or there is none, or no map holds it
pub head_unread : (contains : ℕ → Bool) (l : Layout) (m : Memory) (a : ℕ) (e : StackError) (r : Result (Option ℕ) StackError)
    → Answers {T = ℕ} stack_fault (threads_head l m a) (Err e)
    → MatchOption (stack_fault e) (r ≡ Err stack.OutOfMemory) (λ f. r ≡ Ok None) → IsOrNoMemory (headed_by contains l m a (threads_head l m a)) r
head_unread contains l m a e r h is = by (threads_head l m a) (stack_fault e) h.is is
  where
    by : (d : Found ℕ) (o : Option Fault) → FaultIs d o → MatchOption o (r ≡ Err stack.OutOfMemory) (λ f. r ≡ Ok None) → IsOrNoMemory (headed_by contains l m a d) r
    by d None f same = rw same refl
    by d (Some x) f same = rw (same, f) refl

pub headless : (contains : ℕ → Bool) (l : Layout) (m : Memory) (a head : ℕ) → threads_head l m a ≡ Ok head → head ≡ 0 → None ≡ headed_by contains l m a (threads_head l m a)
headless contains l m a head e null = rw (e, null) refl

pub head_unmapped : (contains : ℕ → Bool) (l : Layout) (m : Memory) (a head : ℕ) → threads_head l m a ≡ Ok head → head ≢ 0 → contains head ≡ false → None ≡ headed_by contains l m a (threads_head l m a)
head_unmapped contains l m a zero e some out = absurd (some refl)
head_unmapped contains l m a (suc head) e some out = rw (e, out) refl

pub outside_headed : (contains : ℕ → Bool) (l : Layout) (m : Memory) (a : ℕ) → contains a ≡ false → None ≡ headed_at contains l m a
unfolding headed_at
outside_headed contains l m a e = rw e refl

pub inside_headed : (contains : ℕ → Bool) (l : Layout) (m : Memory) (a : ℕ) (r : Result (Option ℕ) StackError) → contains a ≡ true → IsOrNoMemory (headed_by contains l m a (threads_head l m a)) r → IsOrNoMemory (headed_at contains l m a) r
unfolding headed_at
inside_headed contains l m a r e h = rw e h

-- ---- chains of threads

next_at : (l : Layout) (i : ℕ) (m : Memory) (a : ℕ) (r : Result ℕ Break) → after_record l i (record_at m a l.thread.size) ≡ r → thread_of l i m a ≡ r
unfolding thread_of
next_at l i m a r e = e

pub chaining_init : (l : Layout) (i head : ℕ) (s : Seen) → Chaining l i head s s 0 head
chaining_init l i head s = record { members = []; within = omega arith; long = refl; reading = reading_none _ s _ (λ m. rw sub-zero refl) }

abbrev pub walked : ℕ → Ending → Walked
walked n ending = record { members = n; ending = ending }

ends_there : (l : Layout) (i head : ℕ) (m : Memory) (members : List ℕ) (count : ℕ) (ending : Ending)
    → length members ≡ count → threads_front l i m head ≡ record { members = members; ending = ending }
    → walked count ending ≡ walked_of (threads_front l i m head)
ends_there l i head m members count ending long e =
    ap (λ n. walked n ending) (sym long) ∙ sym (ap (λ (f : Front). walked_of f) e)

module _ {l : Layout} {i head : ℕ} {s0 s1 : Seen} {count at : ℕ} where
  pub chaining_more : {s2 : Seen} (thread : Vec ℕ Global) (next : ℕ) → Chaining l i head s0 s1 count at → at ≢ 0 → count < thread_limit
      → Reading 1 s1 s2 (λ m. ThreadIs l i (record_at m at l.thread.size) (Ok (At thread))) → next ≡ u64_in thread.items l.thread.next → Chaining l i head s0 s2 (count + 1) next
  chaining_more thread next w some below r is =
      let room : thread_limit - count ≡ suc (thread_limit - (count + 1)) = omega arith in
      record {
        members = w.members ++ at ∷ [];
        within = omega arith;
        long = omega (arith, length-append w.members (at ∷ []), w.long);
        reading = reading_then _ w.reading r (λ m p d. behind_more (thread_of l i m) (thread_limit - (count + 1)) w.members (threads_front l i m head) at next some (next_at l i m at (Ok next) (d.1 ∙ ap Ok (sym is))) (rw room at p));
      }

  -- those that were met are threads of the chain
  chain_within : Chaining l i head s0 s1 count at → count ≤ length (threads_front l i (byte_at s0.pieces) head).members
  chain_within w =
      let rest = front_at (thread_of l i (byte_at s0.pieces)) (thread_limit - count) at in
      omega (arith, w.long, ap (λ (f : Front). length f.members) (reading_here w.reading), length-append w.members rest.members)

  pub chaining_done : Chaining l i head s0 s1 count at → at ≡ 0 → ReadingBy (λ m. 1 + length (threads_front l i m head).members) s0 s1 (λ m. walked count Whole ≡ walked_of (threads_front l i m head))
  chaining_done w null = reading_gives _ _ w.reading (omega (arith, chain_within w))
      (λ m p. ends_there l i head m w.members count Whole w.long (behind_ends (thread_of l i m) (thread_limit - count) w.members (threads_front l i m head) at Whole (front_end (thread_of l i m) (thread_limit - count) at null) p))

  pub chaining_full : Chaining l i head s0 s1 count at → at ≢ 0 → count ≡ thread_limit → ReadingBy (λ m. 1 + length (threads_front l i m head).members) s0 s1 (λ m. walked count Cut ≡ walked_of (threads_front l i m head))
  chaining_full w some full =
      let none : thread_limit - count ≡ 0 = omega arith in
      reading_gives _ _ w.reading (omega (arith, chain_within w))
      (λ m p. ends_there l i head m w.members count Cut w.long (behind_ends (thread_of l i m) 0 w.members (threads_front l i m head) at Cut (front_full (thread_of l i m) at some) (rw none at p)))

  pub chaining_broken : {s2 : Seen} (end : ChainEnd) → Chaining l i head s0 s1 count at → at ≢ 0 → count < thread_limit → Reading 1 s1 s2 (λ m. ThreadIs l i (record_at m at l.thread.size) (Ok (Broken end)))
      → ReadingBy (λ m. 1 + length (threads_front l i m head).members) s0 s2 (λ m. walked count (ending_of end) ≡ walked_of (threads_front l i m head))
  chaining_broken end w some below r =
      let room : thread_limit - count ≡ suc (thread_limit - (count + 1)) = omega arith in
      reading_gives _ _ (reading_then (λ m. walked count (ending_of end) ≡ walked_of (threads_front l i m head)) w.reading r
      (λ m p d.
      let stops = front_stop (thread_of l i m) (thread_limit - (count + 1)) at d.0 some (next_at l i m at (Err d.0) d.1) in
      let is : front_at (thread_of l i m) (suc (thread_limit - (count + 1))) at ≡ record { members = []; ending = ending_of end } = stops ∙ ap (λ (e : Ending). record { members = []; ending = e }) (sym d.2) in
      ends_there l i head m w.members count (ending_of end) w.long (behind_ends (thread_of l i m) (suc (thread_limit - (count + 1))) w.members (threads_front l i m head) at (ending_of end) is (rw room at p))))
      (omega (arith, chain_within w)) (λ m h. h)

  pub chaining_lost : {s2 : Seen} (e f : StackError) → Chaining l i head s0 s1 count at → count < thread_limit → Reading 1 s1 s2 (λ m. f ≡ stack.OutOfMemory) → e ≡ f → ReadingBy (λ m. 1 + length (threads_front l i m head).members) s0 s2 (λ m. e ≡ stack.OutOfMemory)
  chaining_lost e f w below r same = reading_gives _ _ (reading_then (λ m. e ≡ stack.OutOfMemory) w.reading r (λ m p h. same ∙ h)) (omega (arith, chain_within w)) (λ m h. h)
