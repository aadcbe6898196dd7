-- The entries of a table of members, one after another.
use Rattle.std.proofs.Common.{◌≡◌, ℕ, suc, ◌+◌, ◌*◌, ◌-◌, ◌<◌, List, refl, ◌∙◌, arith}
use Rattle.std.specs.Prelude.{Option, Some, None, Ok, Err}
use Rattle.process_memory.specs.Memory.{Memory, Fault}
use Rattle.process_memory.specs.Seen.{FaultIs, Reading, Reads, Seen}
use Rattle.process_memory.proofs.Reading.{reading_then, reading_gives, reading_none}
use Rattle.py_selftest.specs.declared.members.Member.{Member}
use Rattle.py_selftest.specs.declared.members.Step.{Step}
use Rattle.py_selftest.specs.declared.members.Step.TheVariants.{End, Found, Other}
use Rattle.py_selftest.specs.Members.{found_by, member_from, step_at}

module _ (m : Memory) (name : List ℕ) (table number n : ℕ) where
  from_step : (k : ℕ) (step : Step) → n ≡ suc k → step_at m name table (number * 40) ≡ Ok step
      → member_from m name table n number ≡ found_by (member_from m name table k (number + 1)) step
  unfolding member_from
  from_step k step n_is e = rw (n_is, e) refl

  from_stop : (k : ℕ) (f : Fault) → n ≡ suc k → step_at m name table (number * 40) ≡ Err f
      → member_from m name table n number ≡ Err f
  unfolding member_from
  from_stop k f n_is e = rw (n_is, e) refl

  from_end : n ≡ 0 → member_from m name table n number ≡ Ok None
  unfolding member_from
  from_end n_is = rw n_is refl

-- none of the entries before a number is the member, or the end
pub record Seeking (name : List ℕ) (table : ℕ) (s0 s1 : Seen) (number : ℕ) : Type 0 where
  pub reading : Reading (4 * number) s0 s1
      (λ m. member_from m name table 256 0 ≡ member_from m name table (256 - number) number)

pub seeking_init : (name : List ℕ) (table : ℕ) (seen : Seen) → Seeking name table seen seen 0
seeking_init name table seen = record { reading = reading_none _ seen _ (λ m. refl) }

module _ {name : List ℕ} {table : ℕ} {s0 s1 : Seen} {number : ℕ} where
  pub seeking_more : {E : Type 0} {fault : E → Option Fault} {s2 : Seen} → Seeking name table s0 s1 number
      → number < 256 → Reads {E = E} fault 4 s1 s2 (λ m. step_at m name table (number * 40)) (Ok Other)
      → Seeking name table s0 s2 (number + 1)
  seeking_more t some a =
      let n_is : 256 - number ≡ suc (256 - (number + 1)) = omega arith in
      record {
        reading = reading_gives _ _
            (reading_then (λ m. member_from m name table 256 0
            ≡ member_from m name table (256 - (number + 1)) (number + 1)) t.reading a
            (λ m e x. e ∙ from_step m name table number (256 - number) (256 - (number + 1)) Other n_is x.is))
            (omega arith) (λ m e. e);
      }

  pub seeking_found : {E E' : Type 0} {fault : E → Option Fault} {fault' : E' → Option Fault} {s2 : Seen}
      (member : Member)
      → Seeking name table s0 s1 number → number < 256
      → Reads {E = E} fault 4 s1 s2 (λ m. step_at m name table (number * 40)) (Ok (Found member))
      → Reads {E = E'} fault' 1024 s0 s2 (λ m. member_from m name table 256 0) (Ok (Some member))
  seeking_found member t some a =
      let n_is : 256 - number ≡ suc (256 - (number + 1)) = omega arith in
      reading_gives _ _
      (reading_then (λ m. member_from m name table 256 0 ≡ Ok (Some member)) t.reading a
      (λ m e x. e ∙ from_step m name table number (256 - number) (256 - (number + 1)) (Found member) n_is x.is))
      (omega arith) (λ m e. record { is = e })

  pub seeking_ended : {E E' : Type 0} {fault : E → Option Fault} {fault' : E' → Option Fault} {s2 : Seen}
      → Seeking name table s0 s1 number → number < 256
      → Reads {E = E} fault 4 s1 s2 (λ m. step_at m name table (number * 40)) (Ok End)
      → Reads {E = E'} fault' 1024 s0 s2 (λ m. member_from m name table 256 0) (Ok None)
  seeking_ended t some a =
      let n_is : 256 - number ≡ suc (256 - (number + 1)) = omega arith in
      reading_gives _ _
      (reading_then (λ m. member_from m name table 256 0 ≡ Ok None) t.reading a
      (λ m e x. e ∙ from_step m name table number (256 - number) (256 - (number + 1)) End n_is x.is))
      (omega arith) (λ m e. record { is = e })

  pub seeking_stop : {E E' : Type 0} {fault : E → Option Fault} {fault' : E' → Option Fault} {s2 : Seen}
      {e : E} (e' : E')
      → Seeking name table s0 s1 number → number < 256
      → Reads {T = Step} fault 4 s1 s2 (λ m. step_at m name table (number * 40)) (Err e) → fault' e' ≡ fault e
      → Reads {T = Option Member} fault' 1024 s0 s2 (λ m. member_from m name table 256 0) (Err e')
  seeking_stop {fault = fault} {e = e} e' t some a same =
      let n_is : 256 - number ≡ suc (256 - (number + 1)) = omega arith in
      reading_gives _ _
      (reading_then (λ m. FaultIs (member_from m name table 256 0) (fault e)) t.reading a
      (λ m d x. elim (fault e) as (λ o. FaultIs (step_at m name table (number * 40)) o
      → FaultIs (member_from m name table 256 0) o) [
        | None ↦ λ h. tt
        | Some f ↦ λ h. d ∙ from_stop m name table number (256 - number) (256 - (number + 1)) f n_is h
      ] x.is))
      (omega arith) (λ m h. record { is = rw same h })

  pub seeking_done : {E : Type 0} {fault : E → Option Fault} → Seeking name table s0 s1 number → number ≡ 256
      → Reads {E = E} fault 1024 s0 s1 (λ m. member_from m name table 256 0) (Ok None)
  seeking_done t all = reading_gives _ _ t.reading (omega arith)
      (λ m e. record { is = e ∙ from_end m name table number (256 - number) (omega arith) })
