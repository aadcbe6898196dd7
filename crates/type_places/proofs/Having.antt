-- The classes of some objects, one after another.
use Rattle.std.proofs.Common.{◌≡◌, ◌≢◌, ℕ, ◌+◌, ◌<◌, ◌≤◌, true, false, nat_eq, List, length, drop, get_or, refl, ◌∙◌}
use Rattle.std.proofs.Common.{ap, arith}
use Rattle.std.specs.Prelude.{Bool, Option, Some, None, Ok, Err, if◌then◌else◌}
use Rattle.std.proofs.lemmas.Bool.Decides.{nat_tests}
use Rattle.std.proofs.lemmas.List.{drop_more, drop_all}
use Rattle.process_memory.specs.Memory.{Memory, Fault}
use Rattle.process_memory.specs.Seen.{Seen, FaultIs}
use Rattle.process_memory.proofs.Reading.{reading_then, reading_gives, reading_none}
use Rattle.py_fields.specs.declared.layout.Layout.{Layout}
use Rattle.py_builtins.specs.Consulted.{ReadingFields, ReadsFields}
use Rattle.type_places.specs.Classes.{class_address_at, have_class}

module _ (l : Layout) (m : Memory) (class : ℕ) (xs : List ℕ) (number : ℕ) where
  have_step : number < length xs → (own : ℕ) → class_address_at l m (get_or xs number 0) ≡ Ok own
      → have_class l m class (drop number xs) ≡ (if nat_eq own class then have_class l m class (drop
      (number + 1) xs) else Ok false)
  unfolding have_class
  have_step some own e = ap (have_class l m class) (drop_more xs number 0 some) ∙ rw e refl

  have_same : number < length xs → (own : ℕ) → class_address_at l m (get_or xs number 0) ≡ Ok own → own ≡ class
      → have_class l m class (drop number xs) ≡ have_class l m class (drop (number + 1) xs)
  have_same some own e same =
      let is : nat_eq own class ≡ true = grind (arith, nat_tests) in
      have_step some own e ∙ rw is refl

  have_other : number < length xs → (own : ℕ) → class_address_at l m (get_or xs number 0) ≡ Ok own → own ≢ class
      → have_class l m class (drop number xs) ≡ Ok false
  have_other some own e other =
      let is : nat_eq own class ≡ false = grind (arith, nat_tests) in
      have_step some own e ∙ rw is refl

  have_stop : number < length xs → (f : Fault) → class_address_at l m (get_or xs number 0) ≡ Err f
      → have_class l m class (drop number xs) ≡ Err f
  unfolding have_class
  have_stop some f e = ap (have_class l m class) (drop_more xs number 0 some) ∙ rw e refl

  have_end : length xs ≤ number → have_class l m class (drop number xs) ≡ Ok true
  unfolding have_class
  have_end all = ap (have_class l m class) (drop_all number xs all)

-- each object before a number has the class
pub record Having (l : Layout) (class : ℕ) (xs : List ℕ) (s0 s1 : Seen) (number : ℕ) : Type 0 where
  pub within : number ≤ length xs
  pub reading : ReadingFields number s0 s1 (λ m. have_class l m class xs ≡ have_class l m class (drop number xs))

pub having_init : (l : Layout) (class : ℕ) (xs : List ℕ) (seen : Seen) → Having l class xs seen seen 0
having_init l class xs seen = record { within = omega arith; reading = reading_none 0 seen _ (λ m. refl) }

module _ {l : Layout} {class : ℕ} {xs : List ℕ} {s0 s1 : Seen} {number : ℕ} where
  pub having_more : {E : Type 0} {fault : E → Option Fault} {s2 : Seen} (own : ℕ) → Having l class xs s0 s1 number
      → number < length xs
      → ReadsFields {E = E} fault 1 s1 s2 (λ m. class_address_at l m (get_or xs number 0)) (Ok own) → own ≡ class
      → Having l class xs s0 s2 (number + 1)
  having_more own t some a same = record {
    within = omega arith;
    reading = reading_then _ t.reading a (λ m e x. e ∙ have_same l m class xs number some own x.is same);
  }

  pub having_other : {E E' : Type 0} {fault : E → Option Fault} {fault' : E' → Option Fault} {s2 : Seen} (own : ℕ)
      → Having l class xs s0 s1 number → number < length xs
      → ReadsFields {E = E} fault 1 s1 s2 (λ m. class_address_at l m (get_or xs number 0)) (Ok own) → own ≢ class
      → ReadsFields {E = E'} fault' (length xs) s0 s2 (λ m. have_class l m class xs) (Ok false)
  having_other own t some a other = reading_gives _ _
      (reading_then (λ m. have_class l m class xs ≡ Ok false) t.reading a
      (λ m e x. e ∙ have_other l m class xs number some own x.is other))
      (omega arith) (λ m e. record { is = e })

  pub having_stop : {E E' : Type 0} {fault : E → Option Fault} {fault' : E'
      → Option Fault} {s2 : Seen} {e : E} (e' : E') → Having l class xs s0 s1 number → number < length xs
      → ReadsFields {T = ℕ} fault 1 s1 s2 (λ m. class_address_at l m (get_or xs number 0)) (Err e) → fault' e' ≡ fault e
      → ReadsFields {T = Bool} fault' (length xs) s0 s2 (λ m. have_class l m class xs) (Err e')
  having_stop {fault = fault} {e = e} e' t some a same = reading_gives _ _
      (reading_then (λ m. FaultIs (have_class l m class xs) (fault e)) t.reading a
      (λ m d x. elim (fault e) as (λ o. FaultIs (class_address_at l m (get_or xs number 0)) o
      → FaultIs (have_class l m class xs) o)
      [ None ↦ λ h. tt | Some f ↦ λ h. d ∙ have_stop l m class xs number some f h ] x.is))
      (omega arith) (λ m h. record { is = rw same h })

  pub having_done : {E : Type 0} {fault : E → Option Fault} → Having l class xs s0 s1 number → length xs ≤ number
      → ReadsFields {E = E} fault (length xs) s0 s1 (λ m. have_class l m class xs) (Ok true)
  having_done t all = reading_gives _ _ t.reading t.within (λ m e. record { is = e ∙ have_end l m class xs number all })
