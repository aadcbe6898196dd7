-- How the clauses of readers are put together.
use Rattle.std.proofs.Common.{◌≡◌, ℕ, ◌-◌, ◌+◌, ◌<◌, ◌≤◌, ◌^◌, ltb, false, List, [], ◌∷◌, ◌++◌, length, refl, sym, ◌∙◌}
use Rattle.std.proofs.Common.{ap, arith, length-append, subst}
use Rattle.std.specs.Prelude.{Option, Some, None, IsSome, Result, Ok, Err}
use Rattle.std.proofs.lemmas.Bool.Decides.{nat_tests}
use Rattle.std.proofs.lemmas.Option.{slice_get_within}
use Rattle.std.specs.Int.{w64, from_le_bytes}
use Rattle.process_memory.specs.declared.memory.Span.{Span}
use Rattle.process_memory.specs.declared.memory.ReadFault.{ReadFault}
use Rattle.process_memory.specs.declared.memory.ReadFault.TheVariants.{Unreadable, OutOfMemory}
use Rattle.process_memory.specs.Memory.Fault.{Missing}
use Rattle.process_memory.specs.Memory.{Memory, byte_at, record_at, Found, Fault, ◌>>=◌, word_at}
use Rattle.process_memory.specs.Seen.{IsRead, IsShort, Reading, ReadsOf, Seen, Extends, HoldsRead, ReadingOf, OneRead, Answers, FaultIs, read_fault}
use Rattle.process_memory.specs.Seen.{ranges_after, with_range, IsPartWith, AddsOnly, with_bytes}
use Rattle.process_memory.proofs.Ranges.{slice_get-end, holds-before, holds-after, extends-trans, extends-self}
use Rattle.process_memory.proofs.Ranges.{holds-both, holds-self, only-both, only-self, only-wider}
use Rattle.process_memory.proofs.Records.{Within, record_kept, record_lost, record_all}

-- one reader after another
pub reading_then : {allowed : Memory → Span → Type 0} {n k : ℕ} {s0 s1 s2 : Seen} {P Q : Memory → Type 0} (R : Memory → Type 0) → ReadingOf allowed n s0 s1 P → ReadingOf allowed k s1 s2 Q → ((m : Memory) → P m → Q m → R m) → ReadingOf allowed (n + k) s0 s2 R
reading_then {allowed = allowed} {s0 = s0} {s1 = s1} {s2 = s2} R p q f = record {
  pieces = q.pieces ∙ p.pieces;
  counter = q.counter ∙ p.counter;
  memory = q.memory ∙ p.memory;
  ranges = extends-trans s0.ranges s1.ranges s2.ranges p.ranges q.ranges;
  here = holds-both s0.ranges s1.ranges s2.ranges (byte_at s0.pieces) (byte_at s0.pieces) q.ranges p.here (rw p.pieces at q.here);
  only = only-both (allowed (byte_at s0.pieces)) s0.ranges s1.ranges s2.ranges p.ranges q.ranges p.only (rw p.pieces at q.only);
  cost = omega (arith, p.cost, q.cost);
  holds = λ m c. f m
      (p.holds m (record { agrees = c.agrees; holds = holds-before s0.ranges s1.ranges s2.ranges (byte_at s0.pieces) m q.ranges c.holds }))
      (q.holds m (record { agrees = λ a b h. rw p.pieces (c.agrees a b h); holds = rw p.pieces (holds-after s0.ranges s1.ranges s2.ranges (byte_at s0.pieces) m p.ranges c.holds) }));
}

-- fewer reads, and what follows from the fact
pub reading_gives : {allowed : Memory → Span → Type 0} {n : ℕ} {s0 s1 : Seen} {P : Memory → Type 0} (k : ℕ) (Q : Memory → Type 0) → ReadingOf allowed n s0 s1 P → n ≤ k → ((m : Memory) → P m → Q m) → ReadingOf allowed k s0 s1 Q
reading_gives k Q p le f = record { pieces = p.pieces; counter = p.counter; memory = p.memory; ranges = p.ranges; here = p.here; only = p.only; cost = omega (arith, p.cost); holds = λ m c. f m (p.holds m c) }

-- nothing was read
pub reading_none : {allowed : Memory → Span → Type 0} (k : ℕ) (s : Seen) (Q : Memory → Type 0) → ((m : Memory) → Q m) → ReadingOf allowed k s s Q
reading_none k s Q f = record { pieces = refl; counter = refl; memory = refl; ranges = extends-self s.ranges; here = holds-self s.ranges (byte_at s.pieces); only = only-self _ s.ranges; cost = omega arith; holds = λ m c. f m }

-- what a read of one range says of each memory that covers it
read_spans : (r0 : Option (List Span)) (s : Span) (w m : Memory) → HoldsRead r0 (with_range r0 s) w m → (k : ℕ) → k < s.len → IsSome (w (s.start + k)) → IsSome (m (s.start + k))
read_spans None s w m h k b e = h (s.start + k) e
read_spans (Some xs) s w m h k b e = h (length xs) s (omega arith) (slice_get-end xs s) k b

read_extends : (r0 : Option (List Span)) (s : Span) → Extends r0 (with_range r0 s)
read_extends None s = tt
read_extends (Some xs) s = (s ∷ [], refl)

read_answers : (r : Result (List ℕ) ReadFault) (s : Span) (r0 : Option (List Span)) (w m : Memory) → Within m w → HoldsRead r0 (ranges_after r r0 s) w m → Answers read_fault (record_at w s.start s.len) r → Answers read_fault (record_at m s.start s.len) r
read_answers (Ok bs) s r0 w m i h e = record { is = record_kept m w s.start s.len bs i (read_spans r0 s w m h) e.is }
read_answers (Err (Unreadable a n)) s r0 w m i h e = record { is = record_lost m w s.start s.len (Missing a n) i e.is }
read_answers (Err OutOfMemory) s r0 w m i h e = record { is = tt }

read_ranges : (r : Result (List ℕ) ReadFault) (s : Span) (r0 : Option (List Span)) → Extends r0 (ranges_after r r0 s)
read_ranges (Ok bs) s r0 = read_extends r0 s
read_ranges (Err e) s r0 = extends-self r0

-- the memory that was read holds what was read
read_here : (r : Result (List ℕ) ReadFault) (s : Span) (r0 : Option (List Span)) (w : Memory) → Answers read_fault (record_at w s.start s.len) r → HoldsRead r0 (ranges_after r r0 s) w w
read_here r s None w p = elim r as (λ v. HoldsRead None (ranges_after v None s) w w) [ Ok bs ↦ λ a h. h | Err e ↦ λ a h. h ]
read_here (Err e) s (Some xs) w p = holds-self (Some xs) w
read_here (Ok bs) s (Some xs) w p = λ k t above at.
    let lt = slice_get_within (xs ++ s ∷ []) k t at in
    let k_is : k ≡ length xs = omega (arith, lt, length-append xs (s ∷ [])) in
    let t_is : Some s ≡ Some t = sym (slice_get-end xs s) ∙ rw k_is at at in
    let t_is2 : s ≡ t = cc in
    rw (← t_is2) (record_all w s.start s.len bs p.is)

read_only : (allowed : Span → Type 0) (r : Result (List ℕ) ReadFault) (s : Span) (r0 : Option (List Span)) → allowed s → AddsOnly allowed r0 (ranges_after r r0 s)
read_only allowed r s None is = elim r as (λ v. AddsOnly allowed None (ranges_after v None s)) [ Ok bs ↦ tt | Err e ↦ tt ]
read_only allowed (Err e) s (Some xs) is = only-self allowed (Some xs)
read_only allowed (Ok bs) s (Some xs) is = λ k t above at.
    let below = slice_get_within (xs ++ s ∷ []) k t at in
    let k_is : k ≡ length xs = omega (arith, below, length-append xs (s ∷ [])) in
    let t_is : Some s ≡ Some t = sym (slice_get-end xs s) ∙ rw k_is at at in
    let t_is2 : s ≡ t = cc in
    rw (← t_is2) is

-- one read, as a clause of a reader
pub reading_one : {allowed : Memory → Span → Type 0} {old new : Seen} {a n : ℕ} {r : Result (List ℕ) ReadFault} → allowed (byte_at old.pieces) (record { start = a; len = n }) → OneRead old new a n r → ReadingOf allowed 1 old new (λ m. Answers read_fault (record_at m a n) r)
reading_one {allowed} {old} {new} {a} {n} {r} is o = let s : Span = record { start = a; len = n } in record {
  pieces = o.pieces;
  counter = o.counter;
  memory = o.memory;
  ranges = rw o.ranges (read_ranges r s old.ranges);
  only = rw o.ranges (read_only (allowed (byte_at old.pieces)) r s old.ranges is);
  here = rw o.ranges (read_here r s old.ranges (byte_at old.pieces) o.answer);
  cost = o.cost;
  holds = λ m c. let h : HoldsRead old.ranges new.ranges (byte_at old.pieces) m = c.holds in read_answers r s old.ranges (byte_at old.pieces) m c.agrees (rw o.ranges at h) o.answer;
}

-- a definition that goes on with what an earlier one gave
pub answers_then : {T U E E' : Type 0} {fault : E → Option Fault} {fault' : E' → Option Fault} {d : Found T} {x : T} (f : T → Found U) {r : Result U E'} → Answers fault d (Ok x) → Answers fault' (f x) r → Answers fault' (d >>= f) r
answers_then f p q = record { is = rw p.is q.is }

-- and one that stops where the earlier one did
pub answers_stop : {T U E E' : Type 0} {fault : E → Option Fault} (fault' : E' → Option Fault) {d : Found T} {e : E} (e' : E') (f : T → Found U) → Answers {T = T} fault d (Err e) → fault' e' ≡ fault e → Answers fault' (d >>= f) (Err e')
answers_stop {fault = fault} fault' {d = d} {e = e} e' f p same = record {
  is = rw same
      (elim (fault e) as (λ o. FaultIs d o → FaultIs (d >>= f) o) [ None ↦ λ q. tt | Some x ↦ λ q. rw q refl ] p.is);
}

-- one step of a reader that goes on
pub reads_then : {allowed : Memory → Span → Type 0} {T U E E' : Type 0} {fault : E → Option Fault} {fault' : E' → Option Fault} {n k : ℕ} {s0 s1 s2 : Seen} {d : Memory → Found T} {x : T} (f : Memory → T → Found U) {r : Result U E'} → ReadingOf allowed n s0 s1 (λ m. Answers fault (d m) (Ok x)) → ReadingOf allowed k s1 s2 (λ m. Answers fault' (f m x) r) → ReadingOf allowed (n + k) s0 s2 (λ m. Answers fault' (d m >>= f m) r)
reads_then f p q = reading_then _ p q (λ m a b. answers_then (f m) a b)

-- a step at which it stops
pub reads_stop : {allowed : Memory → Span → Type 0} {T U E E' : Type 0} {fault : E → Option Fault} {fault' : E' → Option Fault} (n k : ℕ) {s0 s1 : Seen} {d : Memory → Found T} {e : E} (e' : E') (f : Memory → T → Found U) → ReadingOf allowed n s0 s1 (λ m. Answers {T = T} fault (d m) (Err e)) → fault' e' ≡ fault e → ReadingOf allowed (n + k) s0 s1 (λ m. Answers fault' (d m >>= f m) (Err e'))
reads_stop {fault' = fault'} n k e' f p same = reading_gives (n + k) _ p (omega arith) (λ m a. answers_stop fault' e' (f m) a same)

-- no step
pub reads_none : {allowed : Memory → Span → Type 0} {T E : Type 0} {fault : E → Option Fault} (k : ℕ) {s : Seen} {x : T} → ReadingOf allowed k s s (λ m. Answers fault (Ok x) (Ok x))
reads_none k {s} {x} = reading_none k s _ (λ m. record { is = refl })

pub word_stops : (m : Memory) (a : ℕ) (bytes : List ℕ) (e : ReadFault) → Answers read_fault (record_at m a 8) (with_bytes bytes (Err e)) → Answers {T = ℕ} read_fault (word_at m a) (Err e)
unfolding word_at
word_stops m a bytes e p = answers_stop read_fault e (λ bytes. Ok (from_le_bytes w64 bytes)) p refl

pub word_is : (m : Memory) (a : ℕ) (bytes : List ℕ) (n : ℕ) → n ≡ from_le_bytes w64 bytes → Answers read_fault (record_at m a 8) (with_bytes bytes (Ok tt)) → Answers {E = ReadFault} read_fault (word_at m a) (Ok n)
unfolding word_at
word_is m a bytes n v p = answers_then (λ bytes. Ok (from_le_bytes w64 bytes)) p (record { is = rw v refl })

pub word_outside : (m : Memory) (a : ℕ) → 2 ^ 64 ≤ a → Answers {T = ℕ} read_fault (word_at m a) (Err (Unreadable (2 ^ 64 - 1) 8))
unfolding word_at record_at
word_outside m a h = let past : ltb a (2 ^ 64) ≡ false = grind (arith, nat_tests) in record { is = rw past refl }

-- a larger bound
pub reads_within : {allowed : Memory → Span → Type 0} {n : ℕ} {s0 s1 : Seen} {Q : Memory → Type 0} (k : ℕ) → ReadingOf allowed n s0 s1 Q → n ≤ k → ReadingOf allowed k s0 s1 Q
reads_within k p le = record { pieces = p.pieces; counter = p.counter; memory = p.memory; ranges = p.ranges; here = p.here; only = p.only; cost = omega (arith, p.cost); holds = p.holds }

-- the same steps, with the bound as a side condition
pub reads_next : {allowed : Memory → Span → Type 0} {T U E E' : Type 0} {fault : E → Option Fault} {fault' : E' → Option Fault} {n k : ℕ} (t : ℕ) {s0 s1 s2 : Seen} {d : Memory → Found T} {x : T} (f : Memory → T → Found U) {r : Result U E'} → ReadingOf allowed n s0 s1 (λ m. Answers fault (d m) (Ok x)) → ReadingOf allowed k s1 s2 (λ m. Answers fault' (f m x) r) → n + k ≤ t → ReadingOf allowed t s0 s2 (λ m. Answers fault' (d m >>= f m) r)
reads_next t f p q le = reads_within t (reads_then f p q) le

pub reads_halt : {allowed : Memory → Span → Type 0} {T U E E' : Type 0} {fault : E → Option Fault} {fault' : E' → Option Fault} {n : ℕ} (t : ℕ) {s0 s1 : Seen} {d : Memory → Found T} {e : E} (e' : E') (f : Memory → T → Found U) → ReadingOf allowed n s0 s1 (λ m. Answers {T = T} fault (d m) (Err e)) → fault' e' ≡ fault e → n ≤ t → ReadingOf allowed t s0 s1 (λ m. Answers fault' (d m >>= f m) (Err e'))
reads_halt {fault' = fault'} t e' f p same le = reading_gives t _ p le (λ m a. answers_stop fault' e' (f m) a same)

-- what holds of this memory
pub reading_here : {allowed : Memory → Span → Type 0} {n : ℕ} {s0 s1 : Seen} {Q : Memory → Type 0} → ReadingOf allowed n s0 s1 Q → Q (byte_at s0.pieces)
reading_here {s0 = s0} p = p.holds (byte_at s0.pieces) (record { agrees = λ a b h. h; holds = p.here })

-- the value at the end
pub reads_end : {allowed : Memory → Span → Type 0} {T E : Type 0} {fault : E → Option Fault} (k : ℕ) {s : Seen} {x y : T} → x ≡ y → ReadingOf allowed k s s (λ m. Answers fault (Ok x) (Ok y))
reads_end k {s} {x} {y} e = reading_none k s _ (λ m. record { is = ap Ok e })

-- the same definition
pub reads_same : {allowed : Memory → Span → Type 0} {T E : Type 0} {fault : E → Option Fault} {n : ℕ} {s0 s1 : Seen} {r : Result T E} (d e : Memory → Found T) → ((m : Memory) → d m ≡ e m) → ReadingOf allowed n s0 s1 (λ m. Answers fault (e m) r) → ReadingOf allowed n s0 s1 (λ m. Answers fault (d m) r)
reads_same d e same p = reading_gives _ _ p (omega arith) (λ m a. rw (same m) a)

-- nothing was read, and the definition says the result
pub reads_known : {allowed : Memory → Span → Type 0} {T E : Type 0} {fault : E → Option Fault} (k : ℕ) {s : Seen} (d : Memory → Found T) (r : Result T E) → ((m : Memory) → Answers fault (d m) r) → ReadingOf allowed k s s (λ m. Answers fault (d m) r)
reads_known k d r f = reading_none k _ _ f

-- where the ranges were kept from the start
pub reading_part : {allowed : Memory → Span → Type 0} {n : ℕ} {s0 s1 : Seen} {Q : Memory → Type 0} (ranges : List Span) (m : Memory) → ReadingOf allowed n s0 s1 Q → s0.ranges ≡ Some [] → s1.ranges ≡ Some ranges → IsPartWith (byte_at s0.pieces) ranges m → Q m
reading_part {s0 = s0} {s1 = s1} ranges m r from to part =
    let h : HoldsRead (Some []) (Some ranges) (byte_at s0.pieces) m = λ k s above at. part.holds k s at in
    r.holds m (record { agrees = part.agrees; holds = rw (from, to) h })

-- the same reads, among more ranges, where this memory or any says so
pub reading_wider_here : {allowed : Memory → Span → Type 0} {n : ℕ} {s0 s1 : Seen} {Q : Memory → Type 0} (more : Memory → Span → Type 0) → ReadingOf allowed n s0 s1 Q → ((s : Span) → allowed (byte_at s0.pieces) s → more (byte_at s0.pieces) s) → ReadingOf more n s0 s1 Q
reading_wider_here {allowed} {s0 = s0} {s1 = s1} more p f = record {
  pieces = p.pieces;
  counter = p.counter;
  memory = p.memory;
  ranges = p.ranges;
  here = p.here;
  only = only-wider (allowed (byte_at s0.pieces)) (more (byte_at s0.pieces)) s0.ranges s1.ranges f p.only;
  cost = p.cost;
  holds = p.holds;
}

pub reading_wider : {allowed : Memory → Span → Type 0} {n : ℕ} {s0 s1 : Seen} {Q : Memory → Type 0} (more : Memory → Span → Type 0) → ReadingOf allowed n s0 s1 Q → ((m : Memory) (s : Span) → allowed m s → more m s) → ReadingOf more n s0 s1 Q
reading_wider {s0 = s0} more p f = reading_wider_here more p (f (byte_at s0.pieces))

-- a reader of one range reads a short one
pub reading_short : {addr len n : ℕ} {s0 s1 : Seen} {Q : Memory → Type 0} → ReadingOf (IsRead addr len) n s0 s1 Q → Reading n s0 s1 Q
reading_short p = reading_wider IsShort p (λ m s h. let Short : Span → Type 0 = λ t. t.len < 2 ^ 16 in subst Short (sym h.is) h.short)

-- what was read is there behind it
pub read_kept : {allowed : Memory → Span → Type 0} {T E : Type 0} {fault : E → Option Fault} {n : ℕ} {s0 s1 : Seen} {x : T} (d : Memory → Found T) → ReadsOf allowed fault n s0 s1 d (Ok x) → d (byte_at s1.pieces) ≡ Ok x
read_kept d p = rw p.pieces (reading_here p).is
