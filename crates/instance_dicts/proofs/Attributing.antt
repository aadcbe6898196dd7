-- The attributes of slots, one after another.
use Rattle.std.proofs.Common.{◌≡◌, ℕ, suc, ◌+◌, ◌*◌, ◌-◌, ◌<◌, List, [], ◌++◌, refl, ◌∙◌, ap, arith, append-nil}
use Rattle.std.proofs.Math.Nat.{sub-zero}
use Rattle.std.specs.Prelude.{Option, Some, None, Ok, Err, ⊤}
use Rattle.process_memory.specs.Memory.{Memory, Fault, ◌>>=◌}
use Rattle.process_memory.specs.Seen.{Seen, FaultIs}
use Rattle.process_memory.specs.Walk.{after_all}
use Rattle.process_memory.proofs.Reading.{reading_then, reading_gives, reading_none}
use Rattle.process_memory.proofs.Walks.{after_all_none, after_all_twice}
use Rattle.py_fields.specs.declared.layout.Layout.{Layout}
use Rattle.py_builtins.specs.Consulted.{Consulting, Consults}
use Rattle.py_builtins.specs.Dicts.{slot_at}
use Rattle.py_builtins.specs.declared.dicts.Slot.{Slot}
use Rattle.py_builtins.specs.declared.keys.Slots.{Slots}
use Rattle.instance_dicts.specs.declared.attributes.Attribute.{Attribute}
use Rattle.instance_dicts.specs.Attributes.{attribute_of, attributes_from}

module _ (m : Memory) (s : Slots) (number n : ℕ) where
  from_step : (k : ℕ) (slot : Slot) → n ≡ suc k → slot_at m s number ≡ Ok slot
      → attributes_from m s n number ≡ after_all (attribute_of slot) (attributes_from m s k (number + 1))
  unfolding attributes_from
  from_step k slot n_is e = rw (n_is, e) (elim (attributes_from m s k (number + 1))
      as (λ d. (d >>= (λ rest. Ok (attribute_of slot ++ rest))) ≡ after_all (attribute_of slot) d)
      [ Ok rest ↦ refl | Err f ↦ refl ])

  from_stop : (k : ℕ) (f : Fault) → n ≡ suc k → slot_at m s number ≡ Err f → attributes_from m s n number ≡ Err f
  unfolding attributes_from
  from_stop k f n_is e = rw (n_is, e) refl

  from_end : n ≡ 0 → attributes_from m s n number ≡ Ok []
  unfolding attributes_from
  from_end n_is = rw n_is refl

-- these attributes were read of the slots before a number
pub record Attributing (l : Layout) (s : Slots) (s0 s1 : Seen) (count number : ℕ) (list : List Attribute) : Type 0 where
  pub reading : Consulting l (2 * number) s0 s1
      (λ m. attributes_from m s count 0 ≡ after_all list (attributes_from m s (count - number) number))

pub attributing_init : (l : Layout) (s : Slots) (seen : Seen) (count : ℕ) → Attributing l s seen seen count 0 []
attributing_init l s seen count = record {
  reading = reading_none _ seen _ (λ m. rw sub-zero (after_all_none (attributes_from m s count 0)));
}

module _ {l : Layout} {s : Slots} {s0 s1 : Seen} {count number : ℕ} {list : List Attribute} where
  pub attributing_more : {E : Type 0} {fault : E → Option Fault} {s2 : Seen} (slot : Slot)
      → Attributing l s s0 s1 count number list → number < count
      → Consults {E = E} l fault 2 s1 s2 (λ m. slot_at m s number) (Ok slot)
      → Attributing l s s0 s2 count (number + 1) (list ++ attribute_of slot)
  attributing_more slot t some a =
      let n_is : count - number ≡ suc (count - (number + 1)) = omega arith in
      record {
        reading = reading_gives _ _
            (reading_then (λ m. attributes_from m s count 0
            ≡ after_all (list ++ attribute_of slot) (attributes_from m s (count - (number + 1))
            (number + 1))) t.reading a
            (λ m e x. e
            ∙ ap (after_all list) (from_step m s number (count - number) (count - (number + 1)) slot n_is x.is)
            ∙ after_all_twice list (attribute_of slot) (attributes_from m s (count - (number + 1)) (number + 1))))
            (omega arith) (λ m e. e);
      }

  pub attributing_done : {E : Type 0} {fault : E → Option Fault} → Attributing l s s0 s1 count number list
      → number ≡ count → Consults {E = E} l fault (2 * count) s0 s1 (λ m. attributes_from m s count 0) (Ok list)
  attributing_done t all = reading_gives _ _ t.reading (omega arith)
      (λ m e. record {
        is = e ∙ ap (after_all list) (from_end m s number (count - number) (omega arith)) ∙ ap Ok
            (append-nil list);
      })

  pub attributing_stop : {E E' : Type 0} {fault : E → Option Fault} {fault' : E'
      → Option Fault} {s2 : Seen} {e : E} (e' : E')
      → Attributing l s s0 s1 count number list → number < count
      → Consults {T = Slot} l fault 2 s1 s2 (λ m. slot_at m s number) (Err e) → fault' e' ≡ fault e
      → Consults {T = List Attribute} l fault' (2 * count) s0 s2 (λ m. attributes_from m s count 0) (Err e')
  attributing_stop {fault = fault} {e = e} e' t some a same =
      let n_is : count - number ≡ suc (count - (number + 1)) = omega arith in
      reading_gives _ _
      (reading_then (λ m. FaultIs (attributes_from m s count 0) (fault e)) t.reading a
      (λ m d x. elim (fault e) as (λ o. FaultIs (slot_at m s number) o → FaultIs (attributes_from m s count 0) o) [
        | None ↦ λ h. tt
        | Some f ↦ λ h. d ∙ ap (after_all list)
            (from_stop m s number (count - number) (count - (number + 1)) f n_is h)
      ] x.is))
      (omega arith) (λ m h. record { is = rw same h })

  pub attributing_lost : {E E' : Type 0} {fault : E → Option Fault} {fault' : E'
      → Option Fault} {s2 : Seen} {slot : Slot} (e' : E')
      → Attributing l s s0 s1 count number list → number < count
      → Consults {E = E} l fault 2 s1 s2 (λ m. slot_at m s number) (Ok slot) → fault' e' ≡ None
      → Consults {T = List Attribute} l fault' (2 * count) s0 s2 (λ m. attributes_from m s count 0) (Err e')
  attributing_lost e' t some a same =
      reading_gives _ _ (reading_then (λ m. ⊤) t.reading a (λ m d x. tt)) (omega arith)
      (λ m h. record { is = rw same tt })
