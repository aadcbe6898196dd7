-- Words that are looked at one after another, until one leads to what is waited for.
use Rattle.std.proofs.Common.{◌≡◌, ℕ, suc, ◌+◌, ◌-◌, ◌*◌, ◌<◌, ◌≤◌, refl, ap, ◌∙◌, arith}
use Rattle.std.specs.Prelude.{Option, Some, None, Ok, Err}
use Rattle.process_memory.specs.Memory.{Memory, Found, Fault, ◌>>=◌}
use Rattle.process_memory.specs.Seen.{FaultIs, Reading, Reads, Seen}
use Rattle.process_memory.proofs.Reading.{reading_then, reading_gives, reading_none}
use Rattle.py_fields.specs.declared.layout.Layout.{Layout}
use Rattle.py_waits.specs.declared.objects.Waited.{Waited}
use Rattle.py_waits.specs.declared.places.WaitPlaces.{WaitPlaces}
use Rattle.py_waits.specs.Frames.{slots_from}
use Rattle.py_waits.specs.Objects.{slot_step}

-- what is left of a frame's words
abbrev pub rest : Layout → WaitPlaces → ℕ → Option ℕ → Memory → ℕ → Option Waited → Found (Option Waited)
rest l p at frame m number = slots_from l m p at frame (128 - number) number

-- what the words before a number came to: what is left from there on is what the whole is
pub record Looking (spent : ℕ) (s0 s1 : Seen) (l : Layout) (p : WaitPlaces) (at : ℕ) (frame : Option ℕ)
    (before : Option Waited) (number : ℕ) (found : Option Waited) : Type 0 where
  pub reading : Reading spent s0 s1 (λ m. rest l p at frame m 0 before ≡ rest l p at frame m number found)

module _ (l : Layout) (p : WaitPlaces) (at : ℕ) (frame : Option ℕ) where
  goes_by : (m : Memory) (n k number : ℕ) (s : Option Waited) → n ≡ suc k
      → slots_from l m p at frame n number s
      ≡ (slot_step m p at frame (l.frame.locals + 8 * number) s >>= slots_from l m p at frame k (number + 1))
  unfolding slots_from
  goes_by m n k number s is = rw is refl

  goes : (number : ℕ) → number < 128 → (m : Memory) (s : Option Waited)
      → rest l p at frame m number s
      ≡ (slot_step m p at frame (l.frame.locals + 8 * number) s >>= rest l p at frame m (number + 1))
  goes number some m s = goes_by m (128 - number) (128 - (number + 1)) number s (omega arith)

  ends_by : (m : Memory) (n number : ℕ) (s : Option Waited) → n ≡ 0 → slots_from l m p at frame n number s ≡ Ok s
  unfolding slots_from
  ends_by m n number s is = rw is refl

  ends : (number : ℕ) → 128 ≤ number → (m : Memory) (s : Option Waited) → rest l p at frame m number s ≡ Ok s
  ends number all m s = ends_by m (128 - number) number s (omega arith)

  pub looking_init : (before : Option Waited) (seen : Seen) → Looking 0 seen seen l p at frame before 0 before
  looking_init before seen = record { reading = reading_none 0 seen _ (λ m. refl) }

  module _ {s0 s1 : Seen} {before : Option Waited} {number : ℕ} {found : Option Waited} where
    pub looking_more : {E : Type 0} {fault : E → Option Fault} {s2 : Seen} (new : Option Waited)
        → Looking (6 * number) s0 s1 l p at frame before number found → number < 128
        → Reads {E = E} fault 6 s1 s2 (λ m. slot_step m p at frame (l.frame.locals + 8 * number) found) (Ok new)
        → Looking (6 * (number + 1)) s0 s2 l p at frame before (number + 1) new
    looking_more new f some a = record {
      reading = reading_gives _ _
          (reading_then (λ m. rest l p at frame m 0 before ≡ rest l p at frame m (number + 1) new) f.reading a
          (λ m e x. e ∙ goes number some m found ∙ ap (λ d. d >>= rest l p at frame m (number + 1)) x.is))
          (omega arith) (λ m e. e);
    }

    pub looking_stop : {E E' : Type 0} {fault : E → Option Fault} {fault' : E' → Option Fault} {s2 : Seen} {e : E}
        (e' : E') → Looking (6 * number) s0 s1 l p at frame before number found → number < 128
        → Reads {T = Option Waited} fault 6 s1 s2
        (λ m. slot_step m p at frame (l.frame.locals + 8 * number) found) (Err e)
        → fault' e' ≡ fault e
        → Reads {T = Option Waited} fault' 768 s0 s2 (λ m. rest l p at frame m 0 before) (Err e')
    looking_stop {fault = fault} {e = e} e' f some a same = reading_gives _ _
        (reading_then (λ m. FaultIs (rest l p at frame m 0 before) (fault e)) f.reading a
        (λ m d x. elim (fault e)
        as (λ o. FaultIs (slot_step m p at frame (l.frame.locals + 8 * number) found) o
        → FaultIs (rest l p at frame m 0 before) o) [
          | None ↦ λ h. tt
          | Some f ↦ λ h. d ∙ goes number some m found ∙ ap (λ y. y >>= rest l p at frame m (number + 1)) h
        ] x.is))
        (omega arith) (λ m h. record { is = rw same h })

    pub looking_done : {E : Type 0} {fault : E → Option Fault}
        → Looking (6 * number) s0 s1 l p at frame before number found → 128 ≤ number → number ≤ 128
        → Reads {E = E} fault 768 s0 s1 (λ m. rest l p at frame m 0 before) (Ok found)
    looking_done f all few =
        reading_gives _ _ f.reading (omega arith) (λ m e. record { is = e ∙ ends number all m found })
