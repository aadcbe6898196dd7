-- Whether a thread is known, and the walk that looks for one that is.
use Rattle.std.proofs.Common.{◌≡◌, ◌≢◌, ℕ, suc, ◌+◌, ◌-◌, ◌*◌, ◌<◌, ◌≤◌, Bool, true, false, List, [], ◌∷◌, ◌++◌}
use Rattle.std.proofs.Common.{refl, sym, ◌∙◌, ap, arith, length, length-append}
use Rattle.std.proofs.Math.Nat.{sub-zero}
use Rattle.std.proofs.lemmas.List.Folds.{list_any-append}
use Rattle.std.specs.List.{list_any}
use Rattle.std.specs.Prelude.{◌||◌, MatchOption, Ok, Err, Option, Some, None, Result, Vec}
use Rattle.std.specs.Global.{Global}
use Rattle.elf64_core.specs.Fields.{u64_in}
use Rattle.process_memory.specs.Memory.{Found, Memory, ◌>>=◌, byte_at, record_at, Fault}
use Rattle.process_memory.specs.Seen.{Reading, ReadingBy, Seen, Answers, FaultIs}
use Rattle.process_memory.proofs.Reading.{reading_gives, reading_here, reading_none, reading_then}
use Rattle.py_fields.specs.declared.layout.Layout.{Layout}
use Rattle.py_stacks.specs.StackError.{stack_fault}
use Rattle.py_stacks.specs.Threads.{thread_limit}
use Rattle.py_stacks.specs.declared.error.StackError.{StackError}
use Rattle.py_stacks.specs.declared.error.StackError.TheVariants as stack
use Rattle.py_fronts.specs.declared.chain_end.ChainEnd.{ChainEnd}
use Rattle.py_fronts.specs.declared.thread_front.Thread.TheVariants.{At, Broken}
use Rattle.py_fronts.specs.Answers.{IsOrNoMemory}
use Rattle.py_fronts.specs.ChainEnds.{ending_of}
use Rattle.py_fronts.specs.Front.{Break, Ending, Front, behind, front_at}
use Rattle.py_fronts.specs.Front.Ending.{Whole, Cut}
use Rattle.py_fronts.specs.ThreadFronts.{ThreadIs, after_record, thread_of, threads_front}
use Rattle.py_fronts.proofs.FrontLaws.{behind_ends, behind_more, front_end, front_full, front_stop}
use Rattle.heap_search.specs.Known.{has_known, is_among, is_class, is_known, is_known_by, newest_class_at}

-- what can't be read is of no class
pub unread_class : {T : Type 0} (f : T → Found ℕ) (class : ℕ) (d : Found T) (e : StackError)
    (r : Result Bool StackError) → Answers {T = T} stack_fault d (Err e)
    → MatchOption (stack_fault e) (r ≡ Err stack.OutOfMemory) (λ x. r ≡ Ok false)
    → IsOrNoMemory (is_class class (d >>= f)) r
unread_class {T = T} f class d e r h is = by d (stack_fault e) h.is is
  where
    by : (d : Found T) (o : Option Fault) → FaultIs d o
        → MatchOption o (r ≡ Err stack.OutOfMemory) (λ x. r ≡ Ok false) → IsOrNoMemory (is_class class (d >>= f)) r
    by d None q same = rw same refl
    by d (Some x) q same = rw (same, q) refl

known_here : (l : Layout) (m : Memory) (pointers : List ℕ) (class a : ℕ) (bytes : List ℕ)
    → record_at m a l.thread.size ≡ Ok bytes → is_known l m pointers class a ≡ is_known_by l m pointers class bytes
unfolding is_known
known_here l m pointers class a bytes e = rw e refl

next_at : (l : Layout) (i : ℕ) (m : Memory) (a : ℕ) (r : Result ℕ Break)
    → after_record l i (record_at m a l.thread.size) ≡ r → thread_of l i m a ≡ r
unfolding thread_of
next_at l i m a r e = e

has_by : (l : Layout) (m : Memory) (pointers : List ℕ) (class i head : ℕ) (front : Front) (b : Bool)
    → threads_front l i m head ≡ front → list_any (is_known l m pointers class) front.members ≡ b
    → b ≡ has_known l m pointers class i head
unfolding has_known
has_by l m pointers class i head front b e is =
    sym (ap (λ (f : Front). list_any (is_known l m pointers class) f.members) e ∙ is)

or_true : (a b : Bool) → b ≡ true → (a || b) ≡ true
or_true true b e = refl
or_true false b e = e

true_or : (a b : Bool) → a ≡ true → (a || b) ≡ true
true_or true b e = refl
true_or false b e = absurd (cc)

or_false : (a b : Bool) → a ≡ false → b ≡ false → (a || b) ≡ false
or_false false b e f = f
or_false true b e f = absurd (cc)

one_any : (f : ℕ → Bool) (xs : List ℕ) (x : ℕ) → f x ≡ true → list_any f (xs ++ x ∷ []) ≡ true
one_any f xs x e =
    list_any-append f xs (x ∷ []) ∙ or_true (list_any f xs) (list_any f (x ∷ [])) (true_or (f x) false e)

none_any : (f : ℕ → Bool) (xs : List ℕ) (x : ℕ) → list_any f xs ≡ false → f x ≡ false
    → list_any f (xs ++ x ∷ []) ≡ false
none_any f xs x e is =
    list_any-append f xs (x ∷ []) ∙ or_false (list_any f xs) (list_any f (x ∷ [])) e (or_false (f x) false is refl)

-- the threads of an interpreter that were met so far, of which none is known; it stands at `at`
pub record Walking (l : Layout) (pointers : List ℕ) (class i head : ℕ) (old new : Seen) (count at : ℕ) : Type 0 where
  pub members : List ℕ
  pub within : count ≤ thread_limit
  pub long : length members ≡ count
  pub reading : Reading (5 * count) old new (λ m. (threads_front l i m head
      ≡ behind members (front_at (thread_of l i m) (thread_limit - count) at))
      × (list_any (is_known l m pointers class) members ≡ false))

pub walking_init : (l : Layout) (pointers : List ℕ) (class i head : ℕ) (s : Seen)
    → Walking l pointers class i head s s 0 head
walking_init l pointers class i head s = record {
  members = [];
  within = omega arith;
  long = refl;
  reading = reading_none _ s _ (λ m. (rw sub-zero refl, refl));
}

module _ {l : Layout} {pointers : List ℕ} {class i head : ℕ} {s0 s1 : Seen} {count at : ℕ} where
  walk_within : Walking l pointers class i head s0 s1 count at
      → count ≤ length (threads_front l i (byte_at s0.pieces) head).members
  walk_within w =
      let rest = front_at (thread_of l i (byte_at s0.pieces)) (thread_limit - count) at in
      omega (
        arith,
        w.long,
        ap (λ (f : Front). length f.members) (reading_here w.reading).0,
        length-append w.members rest.members,
      )

  -- one more thread is met
  walk_more : {s2 : Seen} (thread : Vec ℕ Global) (next : ℕ) (w : Walking l pointers class i head s0 s1 count at)
      → at ≢ 0 → count < thread_limit
      → Reading 1 s1 s2 (λ m. ThreadIs l i (record_at m at l.thread.size) (Ok (At thread)))
      → next ≡ u64_in thread.items l.thread.next
      → Reading (5 * count + 1) s0 s2 (λ m. (threads_front l i m head
      ≡ behind (w.members ++ at ∷ []) (front_at (thread_of l i m) (thread_limit - (count + 1)) next))
      × (list_any (is_known l m pointers class) w.members ≡ false)
      × (record_at m at l.thread.size ≡ Ok thread.items))
  walk_more thread next w some below r is =
      let room : thread_limit - count ≡ suc (thread_limit - (count + 1)) = omega arith in
      reading_then _ w.reading r (λ m p d. (
        behind_more (thread_of l i m) (thread_limit - (count + 1)) w.members (threads_front l i m head) at next some
            (next_at l i m at (Ok next) (d.1 ∙ ap Ok (sym is))) (rw room at p.0),
        p.1,
        d.0,
      ))

  member_within : {s2 : Seen} (thread : Vec ℕ Global) → Walking l pointers class i head s0 s1 count at → at ≢ 0
      → count < thread_limit
      → Reading 1 s1 s2 (λ m. ThreadIs l i (record_at m at l.thread.size) (Ok (At thread)))
      → count + 1 ≤ length (threads_front l i (byte_at s0.pieces) head).members
  member_within thread w some below r =
      let next = u64_in thread.items l.thread.next in
      let rest = front_at (thread_of l i (byte_at s0.pieces)) (thread_limit - (count + 1)) next in
      omega (
        arith,
        w.long,
        ap (λ (f : Front). length f.members) (reading_here (walk_more thread next w some below r refl)).0,
        length-append (w.members ++ at ∷ []) rest.members,
        length-append w.members (at ∷ []),
      )

  pub walking_more : {s2 s3 : Seen} (thread : Vec ℕ Global) (next : ℕ) (known : Bool)
      → Walking l pointers class i head s0 s1 count at → at ≢ 0 → count < thread_limit
      → Reading 1 s1 s2 (λ m. ThreadIs l i (record_at m at l.thread.size) (Ok (At thread)))
      → Reading 4 s2 s3 (λ m. known ≡ is_known_by l m pointers class thread.items) → known ≡ false
      → next ≡ u64_in thread.items l.thread.next → Walking l pointers class i head s0 s3 (count + 1) next
  walking_more thread next known w some below r k no_thread is = record {
    members = w.members ++ at ∷ [];
    within = omega arith;
    long = omega (arith, length-append w.members (at ∷ []), w.long);
    reading = reading_gives _ _
        (reading_then _ (walk_more thread next w some below r is) k (λ m p e. (
          p.0,
          none_any (is_known l m pointers class) w.members at p.1
              (known_here l m pointers class at thread.items p.2 ∙ sym e ∙ no_thread),
        ))) (omega arith) (λ m h. h);
  }

  pub walking_found : {s2 s3 : Seen} (thread : Vec ℕ Global) (known : Bool)
      → Walking l pointers class i head s0 s1 count at → at ≢ 0 → count < thread_limit
      → Reading 1 s1 s2 (λ m. ThreadIs l i (record_at m at l.thread.size) (Ok (At thread)))
      → Reading 4 s2 s3 (λ m. known ≡ is_known_by l m pointers class thread.items) → known ≡ true
      → ReadingBy (λ m. 1 + 5 * length (threads_front l i m head).members) s0 s3
      (λ m. true ≡ has_known l m pointers class i head)
  walking_found thread known w some below r k found =
      let next = u64_in thread.items l.thread.next in
      reading_gives _ _
      (reading_then (λ m. true ≡ has_known l m pointers class i head) (walk_more thread next w some below r refl) k
      (λ m p e.
      let rest = front_at (thread_of l i m) (thread_limit - (count + 1)) next in
      let here : is_known l m pointers class at ≡ true =
      known_here l m pointers class at thread.items p.2 ∙ sym e ∙ found in
      has_by l m pointers class i head (behind (w.members ++ at ∷ []) rest) true p.0
      (list_any-append (is_known l m pointers class) (w.members ++ at ∷ []) rest.members
      ∙ true_or (list_any (is_known l m pointers class) (w.members ++ at ∷ []))
      (list_any (is_known l m pointers class) rest.members)
      (one_any (is_known l m pointers class) w.members at here))))
      (omega (arith, member_within thread w some below r)) (λ m h. h)

  pub walking_done : Walking l pointers class i head s0 s1 count at → at ≡ 0
      → ReadingBy (λ m. 1 + 5 * length (threads_front l i m head).members) s0 s1
      (λ m. false ≡ has_known l m pointers class i head)
  walking_done w null = reading_gives _ _ w.reading (omega (arith, walk_within w))
      (λ m p. has_by l m pointers class i head (record { members = w.members; ending = Whole }) false
      (behind_ends (thread_of l i m) (thread_limit - count) w.members (threads_front l i m head) at Whole
      (front_end (thread_of l i m) (thread_limit - count) at null) p.0) p.1)

  pub walking_full : Walking l pointers class i head s0 s1 count at → at ≢ 0 → count ≡ thread_limit
      → ReadingBy (λ m. 1 + 5 * length (threads_front l i m head).members) s0 s1
      (λ m. false ≡ has_known l m pointers class i head)
  walking_full w some full =
      let none : thread_limit - count ≡ 0 = omega arith in
      reading_gives _ _ w.reading (omega (arith, walk_within w))
      (λ m p. has_by l m pointers class i head (record { members = w.members; ending = Cut }) false
      (behind_ends (thread_of l i m) 0 w.members (threads_front l i m head) at Cut
      (front_full (thread_of l i m) at some) (rw none at p.0)) p.1)

  pub walking_broken : {s2 : Seen} (end : ChainEnd) → Walking l pointers class i head s0 s1 count at → at ≢ 0
      → count < thread_limit
      → Reading 1 s1 s2 (λ m. ThreadIs l i (record_at m at l.thread.size) (Ok (Broken end)))
      → ReadingBy (λ m. 1 + 5 * length (threads_front l i m head).members) s0 s2
      (λ m. false ≡ has_known l m pointers class i head)
  walking_broken end w some below r =
      let room : thread_limit - count ≡ suc (thread_limit - (count + 1)) = omega arith in
      reading_gives _ _ (reading_then (λ m. false ≡ has_known l m pointers class i head) w.reading r
      (λ m p d.
      let stops = front_stop (thread_of l i m) (thread_limit - (count + 1)) at d.0 some
      (next_at l i m at (Err d.0) d.1) in
      let is : front_at (thread_of l i m) (suc (thread_limit - (count + 1))) at
      ≡ record { members = []; ending = ending_of end } =
      stops ∙ ap (λ (e : Ending). record { members = []; ending = e }) (sym d.2) in
      has_by l m pointers class i head (record { members = w.members; ending = ending_of end }) false
      (behind_ends (thread_of l i m) (suc (thread_limit - (count + 1))) w.members (threads_front l i m head) at
      (ending_of end) is (rw room at p.0)) p.1))
      (omega (arith, walk_within w)) (λ m h. h)

  pub walking_lost : {s2 : Seen} (e f : StackError) → Walking l pointers class i head s0 s1 count at
      → Reading 1 s1 s2 (λ m. f ≡ stack.OutOfMemory) → e ≡ f
      → ReadingBy (λ m. 1 + 5 * length (threads_front l i m head).members) s0 s2 (λ m. e ≡ stack.OutOfMemory)
  walking_lost e f w r same =
      reading_gives _ _ (reading_then (λ m. e ≡ stack.OutOfMemory) w.reading r (λ m p h. same ∙ h))
      (omega (arith, walk_within w)) (λ m h. h)

  -- memory was wanting behind a thread's record
  pub walking_lost_behind : {s2 s3 : Seen} (e f : StackError) (thread : Vec ℕ Global)
      → Walking l pointers class i head s0 s1 count at → at ≢ 0 → count < thread_limit
      → Reading 1 s1 s2 (λ m. ThreadIs l i (record_at m at l.thread.size) (Ok (At thread)))
      → Reading 4 s2 s3 (λ m. f ≡ stack.OutOfMemory) → e ≡ f
      → ReadingBy (λ m. 1 + 5 * length (threads_front l i m head).members) s0 s3 (λ m. e ≡ stack.OutOfMemory)
  walking_lost_behind e f thread w some below r k same =
      reading_gives _ _
      (reading_then (λ m. e ≡ stack.OutOfMemory)
      (walk_more thread (u64_in thread.items l.thread.next) w some below r refl) k (λ m p h. same ∙ h))
      (omega (arith, member_within thread w some below r)) (λ m h. h)

-- ---- one thread

-- one whose id is no thread pointer
pub other_id : (l : Layout) (m : Memory) (pointers : List ℕ) (class : ℕ) (thread : List ℕ) (id : ℕ) (among : Bool)
    → id ≡ u64_in thread l.thread.id → among ≡ is_among pointers id → among ≡ false
    → false ≡ is_known_by l m pointers class thread
other_id l m pointers class thread id among e is no_one =
    let none : is_among pointers (u64_in thread l.thread.id) ≡ false =
    ap (is_among pointers) (sym e) ∙ sym is ∙ no_one in
    rw none refl

-- and one whose id is one
pub same_id : (l : Layout) (m : Memory) (pointers : List ℕ) (class : ℕ) (thread : List ℕ) (id : ℕ) (among : Bool)
    (r : Result Bool StackError) → id ≡ u64_in thread l.thread.id → among ≡ is_among pointers id → among ≡ true
    → IsOrNoMemory (is_class class (newest_class_at l m thread)) r
    → IsOrNoMemory (is_known_by l m pointers class thread) r
same_id l m pointers class thread id among r e is one h =
    let some : is_among pointers (u64_in thread l.thread.id) ≡ true = ap (is_among pointers) (sym e) ∙ sym is ∙ one in
    rw some h
