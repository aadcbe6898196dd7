-- The locals of a frame, variable by variable.
use Rattle.std.proofs.Common.{◌≡◌, ℕ, suc, ◌+◌, ◌*◌, ◌-◌, ◌<◌, ◌≤◌, List, [], ◌++◌, refl, ◌∙◌, ap, arith, append-nil}
use Rattle.std.proofs.Math.Nat.{sub-zero}
use Rattle.std.specs.Prelude.{true, Option, Some, None, Ok, Err, ⊤}
use Rattle.process_memory.specs.Memory.{Memory, Fault, ◌>>=◌}
use Rattle.process_memory.specs.Seen.{Seen, FaultIs}
use Rattle.py_builtins.specs.Consulted.{Consulting, Consults}
use Rattle.process_memory.specs.Walk.{after_all}
use Rattle.process_memory.proofs.Reading.{reading_then, reading_gives, reading_none}
use Rattle.py_fields.specs.declared.layout.Layout.{Layout}
use Rattle.process_memory.proofs.Walks.{after_all_none, after_all_twice}
use Rattle.py_stacks.specs.declared.trace.LocalVariable.{LocalVariable}
use Rattle.py_stacks.specs.Locals.{count_of, kept_local, local_at, locals_cost, locals_from}
use Rattle.py_stacks.specs.Member.{MemberAt}

module _ (l : Layout) (m : Memory) (r : MemberAt) (index k left : ℕ) (is : left ≡ suc k) where
  locals_step : (local : Option LocalVariable) → local_at l m r index ≡ Ok local
      → locals_from l m r index left ≡ after_all (kept_local local) (locals_from l m r (index + 1) k)
  unfolding locals_from
  locals_step local e = rw (is, e) (elim (locals_from l m r (index + 1) k) as (λ d. (d >>= (λ rest. Ok (kept_local local ++ rest))) ≡ after_all (kept_local local) d) [ Ok rest ↦ refl | Err f ↦ refl ])

  locals_stop : (f : Fault) → local_at l m r index ≡ Err f → locals_from l m r index left ≡ Err f
  unfolding locals_from
  locals_stop f e = rw (is, e) refl

locals_end : (l : Layout) (m : Memory) (r : MemberAt) (index left : ℕ) → left ≡ 0 → locals_from l m r index left ≡ Ok []
unfolding locals_from
locals_end l m r index left is = rw is refl

-- these locals were read of the variables before an index
pub record Taking (l : Layout) (r : MemberAt) (s0 s1 : Seen) (count index : ℕ) (locals : List LocalVariable) : Type 0 where
  pub within : index ≤ count
  pub reading : Consulting l (4 * index) s0 s1
      (λ m. locals_from l m r 0 count ≡ after_all locals (locals_from l m r index (count - index)))

pub taking_init : (l : Layout) (r : MemberAt) (s : Seen) (count : ℕ) → Taking l r s s count 0 []
taking_init l r s count = record { within = omega arith; reading = reading_none 0 s _ (λ m. rw sub-zero (after_all_none (locals_from l m r 0 count))) }

module _ {l : Layout} {r : MemberAt} {s0 s1 : Seen} {count index : ℕ} {locals : List LocalVariable} where
  pub taking_more : {E : Type 0} {fault : E → Option Fault} {s2 : Seen} (local : Option LocalVariable)
      → Taking l r s0 s1 count index locals → index < count
      → Consults {E = E} l fault 4 s1 s2 (λ m. local_at l m r index) (Ok local)
      → Taking l r s0 s2 count (index + 1) (locals ++ kept_local local)
  taking_more local t some a =
      let is : count - index ≡ suc (count - (index + 1)) = omega arith in
      record {
        within = omega arith;
        reading = reading_gives _ _
            (reading_then (λ m. locals_from l m r 0 count ≡ after_all (locals ++ kept_local local) (locals_from l m r (index + 1) (count - (index + 1)))) t.reading a
            (λ m e x. e ∙ ap (after_all locals) (locals_step l m r index (count - (index + 1)) (count - index) is local x.is) ∙ after_all_twice locals (kept_local local) (locals_from l m r (index + 1) (count - (index + 1)))))
            (omega arith) (λ m e. e);
      }

  pub taking_done : {E : Type 0} {fault : E → Option Fault} → Taking l r s0 s1 count index locals → count ≤ index
      → Consults {E = E} l fault (4 * count) s0 s1 (λ m. locals_from l m r 0 count) (Ok locals)
  taking_done t all = reading_gives _ _ t.reading (omega (arith, t.within))
      (λ m e. record { is = e ∙ ap (after_all locals) (locals_end l m r index (count - index) (omega arith)) ∙ ap Ok (append-nil locals) })

  pub taking_stop : {E E' : Type 0} {fault : E → Option Fault} {fault' : E' → Option Fault} {s2 : Seen} {e : E} (e' : E')
      → Taking l r s0 s1 count index locals → index < count
      → Consults {T = Option LocalVariable} l fault 4 s1 s2 (λ m. local_at l m r index) (Err e) → fault' e' ≡ fault e
      → Consults {T = List LocalVariable} l fault' (4 * count) s0 s2 (λ m. locals_from l m r 0 count) (Err e')
  taking_stop {fault = fault} {fault' = fault'} {e = e} e' t some a same =
      let is : count - index ≡ suc (count - (index + 1)) = omega arith in
      reading_gives _ _
      (reading_then (λ m. FaultIs (locals_from l m r 0 count) (fault e)) t.reading a
      (λ m d x. elim (fault e) as (λ o. FaultIs (local_at l m r index) o → FaultIs (locals_from l m r 0 count) o)
      [ None ↦ λ h. tt | Some f ↦ λ h. d ∙ ap (after_all locals) (locals_stop l m r index (count - (index + 1)) (count - index) is f h) ] x.is))
      (omega arith)
      (λ m h. record { is = rw same h })

  pub taking_lost : {E E' : Type 0} {fault : E → Option Fault} {fault' : E' → Option Fault} {s2 : Seen} {local : Option LocalVariable} (e' : E')
      → Taking l r s0 s1 count index locals → index < count
      → Consults {E = E} l fault 4 s1 s2 (λ m. local_at l m r index) (Ok local) → fault' e' ≡ None
      → Consults {T = List LocalVariable} l fault' (4 * count) s0 s2 (λ m. locals_from l m r 0 count) (Err e')
  taking_lost e' t some a same = reading_gives _ _ (reading_then (λ m. ⊤) t.reading a (λ m d x. tt)) (omega arith) (λ m h. record { is = rw same tt })

pub locals_costs : (l : Layout) (r : MemberAt) → 1 ≤ locals_cost true l r
unfolding locals_cost
locals_costs l r = omega arith

-- the reads of the variables are counted
pub locals_budget : (l : Layout) (r : MemberAt) (count : ℕ) → count_of l r ≡ Ok count → 0 + (1 + 4 * count) ≤ locals_cost true l r
unfolding locals_cost
locals_budget l r count is = rw is (omega arith)
