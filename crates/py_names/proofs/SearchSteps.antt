-- The search of a dict, slot by slot.
use Rattle.std.proofs.Common.{◌≡◌, ℕ, suc, ◌+◌, ◌*◌, ◌-◌, ◌<◌, ◌≤◌, List, refl, ◌∙◌, arith}
use Rattle.std.proofs.Math.Nat.{sub-zero}
use Rattle.std.specs.Prelude.{Option, Some, None, Ok, Err}
use Rattle.process_memory.specs.Memory.{Memory, Fault, byte_at, ◌>>=◌}
use Rattle.process_memory.specs.Memory.Fault.{Entries}
use Rattle.process_memory.specs.Seen.{Seen, FaultIs}
use Rattle.py_builtins.specs.Consulted.{Consulting, Consults, ConsultsBy}
use Rattle.process_memory.proofs.Reading.{reading_here, reading_then, reading_gives, reading_none}
use Rattle.py_fields.specs.declared.layout.Layout.{Layout}
use Rattle.py_builtins.specs.declared.keys.Slots.{Slots}
use Rattle.py_names.specs.declared.search.Looked.{Looked}
use Rattle.py_names.specs.Search.{find_from, find_looked, looked, looked_behind, or_go_on, named_value_at}

module _ (l : Layout) (m : Memory) (name : List ℕ) (s : Slots) (number n left : ℕ) where
  find_step : (j k : ℕ) → n ≡ suc j → left ≡ suc k
      → find_from l m name s n number left ≡ (named_value_at l m name s number >>= (λ value. or_go_on value k (find_from l m name s j (number + 1) k)))
  unfolding find_from
  find_step j k n_is left_is = rw (n_is, left_is) refl

  looked_step : (j k : ℕ) → n ≡ suc j → left ≡ suc k
      → find_looked l m name s n number left ≡ 1 + looked_behind (named_value_at l m name s number) (find_looked l m name s j (number + 1) k)
  unfolding find_looked
  looked_step j k n_is left_is = rw (n_is, left_is) refl

  looked_none : (j k : ℕ) → n ≡ suc j → left ≡ suc k → named_value_at l m name s number ≡ Ok None
      → find_looked l m name s n number left ≡ 1 + find_looked l m name s j (number + 1) k
  looked_none j k n_is left_is e = looked_step j k n_is left_is ∙ rw e refl

  -- the slot itself
  looked_one : (j k : ℕ) → n ≡ suc j → left ≡ suc k → 1 ≤ find_looked l m name s n number left
  looked_one j k n_is left_is = omega (arith, looked_step j k n_is left_is)

  find_over : (j : ℕ) → n ≡ suc j → left ≡ 0 → find_from l m name s n number left ≡ Err Entries
  unfolding find_from
  find_over j n_is left_is = rw (n_is, left_is) refl

  find_end : n ≡ 0 → find_from l m name s n number left ≡ Ok (looked None left)
  unfolding find_from
  find_end n_is = rw n_is refl

-- none of the slots before a number has the name, and so many may still be looked at
pub record Searching (l : Layout) (name : List ℕ) (s : Slots) (s0 s1 : Seen) (limit number left : ℕ) : Type 0 where
  pub spent : ℕ
  pub counted : find_looked l (byte_at s0.pieces) name s s.count 0 limit ≡ spent + find_looked l (byte_at s0.pieces) name s (s.count - number) number left
  pub reading : Consulting l (4 * spent) s0 s1
      (λ m. find_from l m name s s.count 0 limit ≡ find_from l m name s (s.count - number) number left)

pub searching_init : (l : Layout) (name : List ℕ) (s : Slots) (seen : Seen) (limit : ℕ) → Searching l name s seen seen limit 0 limit
searching_init l name s seen limit = record { spent = 0; counted = rw sub-zero (omega arith); reading = reading_none _ seen _ (λ m. rw sub-zero refl) }

module _ {l : Layout} {name : List ℕ} {s : Slots} {s0 s1 : Seen} {limit number left : ℕ} where
  pub searching_more : {E : Type 0} {fault : E → Option Fault} {s2 : Seen} → Searching l name s s0 s1 limit number left
      → number < s.count → 0 < left → Consults {E = E} l fault 4 s1 s2 (λ m. named_value_at l m name s number) (Ok None)
      → Searching l name s s0 s2 limit (number + 1) (left - 1)
  searching_more t some room a =
      let n_is : s.count - number ≡ suc (s.count - (number + 1)) = omega arith in
      let left_is : left ≡ suc (left - 1) = omega arith in
      let here = rw t.reading.pieces at (reading_here a).is in
      record {
        spent = t.spent + 1;
        counted = omega (arith, t.counted, looked_none l (byte_at s0.pieces) name s number (s.count - number) left (s.count - (number + 1)) (left - 1) n_is left_is here);
        reading = reading_gives _ _
            (reading_then (λ m. find_from l m name s s.count 0 limit ≡ find_from l m name s (s.count - (number + 1)) (number + 1) (left - 1)) t.reading a
            (λ m e x. e ∙ find_step l m name s number (s.count - number) left (s.count - (number + 1)) (left - 1) n_is left_is ∙ rw x.is refl))
            (omega arith) (λ m e. e);
      }

  -- one more is counted
  one_more : (t : Searching l name s s0 s1 limit number left) → number < s.count → 0 < left
      → t.spent + 1 ≤ find_looked l (byte_at s0.pieces) name s s.count 0 limit
  one_more t some room =
      omega (arith, t.counted, looked_one l (byte_at s0.pieces) name s number (s.count - number) left (s.count - (number + 1)) (left - 1) (omega arith) (omega arith))

  pub searching_found : {E : Type 0} {fault : E → Option Fault} {s2 : Seen} (value : ℕ) → Searching l name s s0 s1 limit number left
      → number < s.count → 0 < left → Consults {E = E} l fault 4 s1 s2 (λ m. named_value_at l m name s number) (Ok (Some value))
      → ConsultsBy {E = E} l fault (λ m. 4 * find_looked l m name s s.count 0 limit) s0 s2 (λ m. find_from l m name s s.count 0 limit) (Ok (looked (Some value) (left - 1)))
  searching_found value t some room a =
      let n_is : s.count - number ≡ suc (s.count - (number + 1)) = omega arith in
      let left_is : left ≡ suc (left - 1) = omega arith in
      reading_gives _ _
      (reading_then (λ m. find_from l m name s s.count 0 limit ≡ Ok (looked (Some value) (left - 1))) t.reading a
      (λ m e x. e ∙ find_step l m name s number (s.count - number) left (s.count - (number + 1)) (left - 1) n_is left_is ∙ rw x.is refl))
      (omega (arith, one_more t some room)) (λ m e. record { is = e })

  pub searching_done : {E : Type 0} {fault : E → Option Fault} → Searching l name s s0 s1 limit number left → s.count ≤ number
      → ConsultsBy {E = E} l fault (λ m. 4 * find_looked l m name s s.count 0 limit) s0 s1 (λ m. find_from l m name s s.count 0 limit) (Ok (looked None left))
  searching_done t all = reading_gives _ _ t.reading (omega (arith, t.counted))
      (λ m e. record { is = e ∙ find_end l m name s number (s.count - number) left (omega arith) })

  pub searching_over : {E : Type 0} {fault : E → Option Fault} (e : E) → Searching l name s s0 s1 limit number left
      → number < s.count → left ≡ 0 → fault e ≡ Some Entries
      → ConsultsBy {T = Looked} l fault (λ m. 4 * find_looked l m name s s.count 0 limit) s0 s1 (λ m. find_from l m name s s.count 0 limit) (Err e)
  searching_over e t some none is = reading_gives _ _ t.reading (omega (arith, t.counted))
      (λ m d. record { is = rw is (d ∙ find_over l m name s number (s.count - number) left (s.count - (number + 1)) (omega arith) none) })

  pub searching_stop : {E E' : Type 0} {fault : E → Option Fault} {fault' : E' → Option Fault} {s2 : Seen} {e : E} (e' : E')
      → Searching l name s s0 s1 limit number left → number < s.count → 0 < left
      → Consults {T = Option ℕ} l fault 4 s1 s2 (λ m. named_value_at l m name s number) (Err e) → fault' e' ≡ fault e
      → ConsultsBy {T = Looked} l fault' (λ m. 4 * find_looked l m name s s.count 0 limit) s0 s2 (λ m. find_from l m name s s.count 0 limit) (Err e')
  searching_stop {fault = fault} {fault' = fault'} {e = e} e' t some room a same =
      let n_is : s.count - number ≡ suc (s.count - (number + 1)) = omega arith in
      let left_is : left ≡ suc (left - 1) = omega arith in
      reading_gives _ _
      (reading_then (λ m. FaultIs (find_from l m name s s.count 0 limit) (fault e)) t.reading a
      (λ m d x. elim (fault e) as (λ o. FaultIs (named_value_at l m name s number) o → FaultIs (find_from l m name s s.count 0 limit) o)
      [ None ↦ λ h. tt | Some f ↦ λ h. d ∙ find_step l m name s number (s.count - number) left (s.count - (number + 1)) (left - 1) n_is left_is ∙ rw h refl ] x.is))
      (omega (arith, one_more t some room))
      (λ m h. record { is = rw same h })
