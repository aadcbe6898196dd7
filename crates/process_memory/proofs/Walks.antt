-- Walks, member by member.
use Rattle.std.proofs.Common.{◌≡◌, ◌≢◌, ℕ, zero, suc, ◌+◌, ◌-◌, ◌<◌, ◌≤◌, List, [], ◌∷◌, ◌++◌, length, map, refl, sym}
use Rattle.std.proofs.Common.{◌∙◌, ap, subst, arith, append-nil, append_assoc, zero-add}
use Rattle.std.proofs.Math.Nat.{sub-zero}
use Rattle.std.specs.Prelude.{Option, Some, None, Result, Ok, Err}
use Rattle.process_memory.specs.Memory.{Memory, Found, Fault, ◌>>=◌, byte_at}
use Rattle.process_memory.specs.Seen.{Seen, ReadingOf, ReadsOf, Answers, FaultIs}
use Rattle.process_memory.specs.declared.memory.Span.{Span}
use Rattle.process_memory.specs.Walk.{IsChain, Step, walk_at, walk_cost, after_all, Walking, walk_faults, goes_on}
use Rattle.process_memory.specs.Walk.{or_else, first_fault, fault_in}
use Rattle.process_memory.specs.Faults.{faults_then, FaultsAre, IsFirst}
use Rattle.process_memory.proofs.Reading.{reading_then, reading_gives, reading_none, reading_here}

module _ {S T : Type 0} (over : Fault) (step : S → ℕ → Found (Step S T)) where
  walk_step : (k : ℕ) (s : S) (at : ℕ) (x : Step S T) → at ≢ 0 → step s at ≡ Ok x → walk_at over step (suc k) s at ≡ after_all (x.part ∷ []) (walk_at over step k x.state x.next)
  unfolding walk_at
  walk_step k s zero x some e = absurd (some refl)
  walk_step k s (suc a) x some e = rw e (elim (walk_at over step k x.state x.next) as (λ r. (r >>= (λ xs. Ok (x.part ∷ xs))) ≡ after_all (x.part ∷ []) r) [ Ok ys ↦ refl | Err f ↦ refl ])

  walk_stop : (k : ℕ) (s : S) (at : ℕ) (f : Fault) → at ≢ 0 → step s at ≡ Err f → walk_at over step (suc k) s at ≡ Err f
  unfolding walk_at
  walk_stop k s zero f some e = absurd (some refl)
  walk_stop k s (suc a) f some e = rw e refl

  walk_full : (s : S) (at : ℕ) → at ≢ 0 → walk_at over step 0 s at ≡ Err over
  unfolding walk_at
  walk_full s zero some = absurd (some refl)
  walk_full s (suc a) some = refl

  walk_end : (k : ℕ) (s : S) → walk_at over step k s 0 ≡ Ok []
  unfolding walk_at
  walk_end zero s = refl
  walk_end (suc k) s = refl

  cost_step : (cost : S → ℕ → ℕ) (k : ℕ) (s : S) (at : ℕ) (x : Step S T) → at ≢ 0 → step s at ≡ Ok x → walk_cost step cost (suc k) s at ≡ cost s at + walk_cost step cost k x.state x.next
  unfolding walk_cost
  cost_step cost k s zero x some e = absurd (some refl)
  cost_step cost k s (suc a) x some e = rw e refl

  cost_least : (cost : S → ℕ → ℕ) (k : ℕ) (s : S) (at : ℕ) → at ≢ 0 → cost s at ≤ walk_cost step cost (suc k) s at
  unfolding walk_cost
  cost_least cost k s zero some = absurd (some refl)
  cost_least cost k s (suc a) some = omega arith

pub after_all_twice : {T : Type 0} (xs ys : List T) (r : Found (List T)) → after_all xs (after_all ys r) ≡ after_all (xs ++ ys) r
after_all_twice xs ys (Ok zs) = ap Ok (sym (append_assoc xs ys zs))
after_all_twice xs ys (Err f) = refl

pub after_all_none : {T : Type 0} (r : Found (List T)) → r ≡ after_all [] r
after_all_none (Ok zs) = refl
after_all_none (Err f) = refl

-- a walk begins
pub walking_init : {S T : Type 0} {allowed : Memory → Span → Type 0} (over : Fault) (step : Memory → S → ℕ → Found (Step S T)) (cost : Memory → S → ℕ → ℕ) (limit : ℕ) (start : S) (head : ℕ) (seen : Seen) → Walking allowed over step cost limit start head seen seen [] 0 start head
walking_init over step cost limit start head seen = record {
  spent = 0;
  within = omega arith;
  reading = reading_none 0 seen _ (λ m. rw sub-zero (after_all_none (walk_at over (step m) limit start head)));
  budget = rw sub-zero (zero-add _);
}

module _ {S T : Type 0} {allowed : Memory → Span → Type 0} {over : Fault} {step : Memory → S → ℕ → Found (Step S T)} {cost : Memory → S → ℕ → ℕ} {limit : ℕ} {start : S} {head : ℕ} {s0 s1 : Seen} {xs : List T} {n : ℕ} {s : S} {at : ℕ} where
  -- it goes on by one member
  pub walking_more : {E : Type 0} {fault : E → Option Fault} {s2 : Seen} {x : Step S T} → Walking allowed over step cost limit start head s0 s1 xs n s at → at ≢ 0 → n < limit → ReadsOf allowed fault (cost (byte_at s1.pieces) s at) s1 s2 (λ m. step m s at) (Ok x) → Walking allowed over step cost limit start head s0 s2 (xs ++ x.part ∷ []) (n + 1) x.state x.next
  walking_more {fault = fault} {s2 = s2} {x = x} w some below r =
      let left : limit - n ≡ suc (limit - (n + 1)) = omega arith in
      let q : ReadingOf allowed (cost (byte_at s0.pieces) s at) s1 s2 (λ m. Answers fault (step m s at) (Ok x)) = rw (← w.reading.pieces) r in
      let now : step (byte_at s0.pieces) s at ≡ Ok x = rw w.reading.pieces at (reading_here r).is in
      record {
        spent = w.spent + cost (byte_at s0.pieces) s at;
        within = omega arith;
        reading = reading_then _ w.reading q (λ m e a. e ∙ ap (after_all xs) (rw left (walk_step over (step m) (limit - (n + 1)) s at x some a.is)) ∙ after_all_twice xs (x.part ∷ []) (walk_at over (step m) (limit - (n + 1)) x.state x.next));
        budget =
            let b = rw left at w.budget in
            let c = cost_step over (step (byte_at s0.pieces)) (cost (byte_at s0.pieces)) (limit - (n + 1)) s at x some now in
            omega (arith, b, c);
      }

  -- it is at the end
  pub walking_done : {E : Type 0} {fault : E → Option Fault} → Walking allowed over step cost limit start head s0 s1 xs n s at → at ≡ 0 → ReadsOf allowed fault (walk_cost (step (byte_at s0.pieces)) (cost (byte_at s0.pieces)) limit start head) s0 s1 (λ m. walk_at over (step m) limit start head) (Ok xs)
  walking_done w zero_at = reading_gives _ _ w.reading (omega (arith, w.budget))
      (λ m e. record { is = e ∙ rw zero_at (ap (after_all xs) (walk_end over (step m) (limit - n) s)) ∙ ap Ok (append-nil xs) })

  -- it has met as many members as it may
  pub walking_full : {E : Type 0} {fault : E → Option Fault} (e : E) → Walking allowed over step cost limit start head s0 s1 xs n s at → at ≢ 0 → n ≡ limit → fault e ≡ Some over → ReadsOf allowed fault (walk_cost (step (byte_at s0.pieces)) (cost (byte_at s0.pieces)) limit start head) s0 s1 (λ m. walk_at over (step m) limit start head) (Err e)
  walking_full {fault = fault} e w some full is =
      let none : limit - n ≡ 0 = omega arith in
      reading_gives _ _ w.reading (omega (arith, w.budget))
      (λ m d. record { is = rw is (d ∙ rw none (ap (after_all xs) (walk_full over (step m) s at some))) })

  -- memory for a member is wanting
  pub walking_lost : {E : Type 0} {fault : E → Option Fault} (e : E) → Walking allowed over step cost limit start head s0 s1 xs n s at → fault e ≡ None → ReadsOf allowed fault (walk_cost (step (byte_at s0.pieces)) (cost (byte_at s0.pieces)) limit start head) s0 s1 (λ m. walk_at over (step m) limit start head) (Err e)
  walking_lost e w is = reading_gives _ _ w.reading (omega (arith, w.budget)) (λ m d. record { is = rw is tt })

  -- a member can't be read
  pub walking_stop : {E E' : Type 0} {fault : E → Option Fault} {fault' : E' → Option Fault} {s2 : Seen} {e : E} (e' : E') → Walking allowed over step cost limit start head s0 s1 xs n s at → at ≢ 0 → n < limit → ReadsOf {T = Step S T} allowed fault (cost (byte_at s1.pieces) s at) s1 s2 (λ m. step m s at) (Err e) → fault' e' ≡ fault e → ReadsOf allowed fault' (walk_cost (step (byte_at s0.pieces)) (cost (byte_at s0.pieces)) limit start head) s0 s2 (λ m. walk_at over (step m) limit start head) (Err e')
  walking_stop {fault = fault} {fault' = fault'} {s2 = s2} {e = e} e' w some below r same =
      let left : limit - n ≡ suc (limit - (n + 1)) = omega arith in
      let q : ReadingOf allowed (cost (byte_at s0.pieces) s at) s1 s2 (λ m. Answers fault (step m s at) (Err e)) = rw (← w.reading.pieces) r in
      let b = rw left at w.budget in
      let c = cost_least over (step (byte_at s0.pieces)) (cost (byte_at s0.pieces)) (limit - (n + 1)) s at some in
      reading_gives _ _
      (reading_then (λ m. FaultIs (walk_at over (step m) limit start head) (fault e)) w.reading q
      (λ m d a. elim (fault e) as (λ o. FaultIs (step m s at) o → FaultIs (walk_at over (step m) limit start head) o)
      [ None ↦ λ h. tt | Some f ↦ λ h. d ∙ rw left (ap (after_all xs) (walk_stop over (step m) (limit - (n + 1)) s at f some h)) ] a.is))
      (omega (arith, b, c))
      (λ m h. record { is = rw same h })

-- a chain, with what each of its members gives
pub record HasChain {T : Type 0} (next : ℕ → Found ℕ) (part : ℕ → Found T) (limit head : ℕ) (parts : List T) : Type 0 where
  pub members : List ℕ
  pub chain : IsChain next head members
  pub each : map part members ≡ map Ok parts
  pub within : length members ≤ limit

module _ {S T : Type 0} (over : Fault) (step : S → ℕ → Found (Step S T)) (next : ℕ → Found ℕ) (part : ℕ → Found T)
    (leads : (s : S) (a : ℕ) (x : Step S T) → step s a ≡ Ok x → next a ≡ Ok x.next) (gives : (s : S) (a : ℕ) (x : Step S T) → step s a ≡ Ok x → part a ≡ Ok x.part) where
  chain_more : (k : ℕ) (s : S) (at : ℕ) (x : Step S T) (r : Found (List T)) (parts : List T) → at ≢ 0 → step s at ≡ Ok x → ((ys : List T) → r ≡ Ok ys → HasChain next part k x.next ys) → (r >>= (λ ys. Ok (x.part ∷ ys))) ≡ Ok parts → HasChain next part (suc k) at parts
  unfolding IsChain
  chain_more k s at x (Err f) parts some e ih h = absurd (cc)
  chain_more k s at x (Ok ys) parts some e ih h =
      let rest = ih ys refl in
      let same : x.part ∷ ys ≡ parts = cc in
      subst (HasChain next part (suc k) at) same (record {
        members = at ∷ rest.members;
        chain = (some, refl, rw (leads s at x e) rest.chain);
        each = ap (λ o. o ∷ map part rest.members) (gives s at x e) ∙ ap (λ os. Ok x.part ∷ os) rest.each;
        within = omega (arith, rest.within);
      })

  -- a walk that ends has met a whole chain, to null
  pub walk_chain : (k : ℕ) (s : S) (head : ℕ) (parts : List T) → walk_at over step k s head ≡ Ok parts → HasChain next part k head parts
  unfolding walk_at IsChain
  walk_chain k s zero parts e =
      let h : [] ≡ parts = cc in
      subst (HasChain next part k 0) h (record { members = []; chain = refl; each = refl; within = omega arith })
  walk_chain zero s (suc a) parts e = absurd (cc)
  walk_chain (suc k) s (suc a) parts e =
      elim (step s (suc a)) as (λ v. step s (suc a) ≡ v → (v >>= (λ x. walk_at over step k x.state x.next >>= (λ ys. Ok (x.part ∷ ys)))) ≡ Ok parts → HasChain next part (suc k) (suc a) parts)
      [ Ok x ↦ λ is g. chain_more k s (suc a) x (walk_at over step k x.state x.next) parts (λ z. cc) is (λ ys q. walk_chain k x.state x.next ys q) g | Err f ↦ λ is g. absurd (cc) ] refl e

first_fault-append : (fs gs : List Fault) → first_fault (fs ++ gs) ≡ or_else (first_fault fs) (first_fault gs)
first_fault-append [] gs = refl
first_fault-append (f ∷ fs) gs = refl

-- the first fault of a walk is that of the list of all faults that it meets, in order
module _ {S T : Type 0} (over : Fault) (step : S → ℕ → Found (Step S T)) (go : S → ℕ → Found (ℕ × S)) (faults : S → ℕ → List Fault)
    (same : (s : S) (a : ℕ) → first_fault (faults s a) ≡ fault_in (step s a)) (leads : (s : S) (a : ℕ) (x : Step S T) → step s a ≡ Ok x → go s a ≡ Ok (x.next, x.state)) where
  pub walk_first_fault : (k : ℕ) (s : S) (head : ℕ) → first_fault (walk_faults over go faults k s head) ≡ fault_in (walk_at over step k s head)
  unfolding walk_at walk_faults
  walk_first_fault k s zero = refl
  walk_first_fault zero s (suc a) = refl
  walk_first_fault (suc k) s (suc a) =
      first_fault-append (faults s (suc a)) _ ∙
      rw same (elim (step s (suc a)) as (λ v. step s (suc a) ≡ v → or_else (fault_in v) (first_fault (goes_on (go s (suc a)) (λ t n. walk_faults over go faults k t n))) ≡ fault_in (v >>= (λ x. walk_at over step k x.state x.next >>= (λ ys. Ok (x.part ∷ ys)))))
      [ Ok x ↦ λ e. rw (leads s (suc a) x e) (walk_first_fault k x.state x.next ∙ elim (walk_at over step k x.state x.next) as (λ r. fault_in r ≡ fault_in (r >>= (λ ys. Ok (x.part ∷ ys)))) [ Ok ys ↦ refl | Err f ↦ refl ]) | Err f ↦ λ e. refl ] refl)

-- one step after another
pub then_same : {T U : Type 0} (d : Found T) (g : T → List Fault) (f : T → Found U) → ((x : T) → first_fault (g x) ≡ fault_in (f x)) → first_fault (faults_then d g) ≡ fault_in (d >>= f)
then_same (Ok x) g f h = h x
then_same (Err e) g f h = refl

-- one step after two others
pub then_same_twice : {T U V : Type 0} (d : Found T) (g : T → List Fault) (f : T → Found U) (h : U → Found V) → ((x : T) → first_fault (g x) ≡ fault_in (f x >>= h)) → first_fault (faults_then d g) ≡ fault_in ((d >>= f) >>= h)
then_same_twice (Ok x) g f h s = s x
then_same_twice (Err e) g f h s = refl

-- an answer says where the first fault is
pub faults_from_answer : {T E : Type 0} (fault : E → Option Fault) (d : Found T) (o : Option Fault) (r : Result T E) → o ≡ fault_in d → Answers fault d r → FaultsAre fault o r
faults_from_answer fault d o (Ok x) e a = e ∙ ap fault_in a.is
faults_from_answer fault d o (Err q) e a = elim (fault q) as (λ v. FaultIs d v → IsFirst o v) [ None ↦ λ h. tt | Some f ↦ λ h. e ∙ ap fault_in h ] a.is
