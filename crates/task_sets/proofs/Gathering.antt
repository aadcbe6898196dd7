-- What is found at one place after another.
use Rattle.std.proofs.Common.{◌≡◌, ℕ, suc, ◌+◌, ◌*◌, ◌-◌, ◌<◌, ◌≤◌, List, [], ◌++◌, refl, ◌∙◌, ap, arith, append-nil}
use Rattle.std.proofs.Math.Nat.{sub-zero}
use Rattle.std.specs.Prelude.{Option, Some, None, Ok, Err, ⊤, option_to_list}
use Rattle.process_memory.specs.Memory.{Memory, Found, Fault, ◌>>=◌}
use Rattle.process_memory.specs.Seen.{Seen, FaultIs, Reading, Reads}
use Rattle.process_memory.specs.Walk.{after_all}
use Rattle.process_memory.proofs.Reading.{reading_then, reading_gives, reading_none}
use Rattle.process_memory.proofs.Walks.{after_all_none, after_all_twice}
use Rattle.task_sets.specs.Gathered.{gathered}

module _ {T : Type 0} (f : ℕ → Found (Option T)) (number n : ℕ) where
  gathered_step : (k : ℕ) (x : Option T) → n ≡ suc k → f number ≡ Ok x
      → gathered f n number ≡ after_all (option_to_list x) (gathered f k (number + 1))
  unfolding gathered
  gathered_step k x n_is e = rw (n_is, e) (elim (gathered f k (number + 1))
      as (λ d. (d >>= (λ rest. Ok (option_to_list x ++ rest))) ≡ after_all (option_to_list x) d)
      [ Ok rest ↦ refl | Err g ↦ refl ])

  gathered_stop : (k : ℕ) (g : Fault) → n ≡ suc k → f number ≡ Err g → gathered f n number ≡ Err g
  unfolding gathered
  gathered_stop k g n_is e = rw (n_is, e) refl

  gathered_end : n ≡ 0 → gathered f n number ≡ Ok []
  unfolding gathered
  gathered_end n_is = rw n_is refl

-- what was found at the places before a number
pub record Gathering {T : Type 0} (f : Memory → ℕ → Found (Option T)) (cost : ℕ) (s0 s1 : Seen) (count number : ℕ)
    (list : List T) : Type 0 where
  pub reading : Reading (cost * number) s0 s1
      (λ m. gathered (f m) count 0 ≡ after_all list (gathered (f m) (count - number) number))

pub gathering_init : {T : Type 0} (f : Memory → ℕ → Found (Option T)) (cost : ℕ) (seen : Seen) (count : ℕ)
    → Gathering f cost seen seen count 0 []
gathering_init f cost seen count = record {
  reading = reading_none _ seen _ (λ m. rw sub-zero (after_all_none (gathered (f m) count 0)));
}

module _ {T : Type 0} {f : Memory → ℕ → Found (Option T)} {cost : ℕ} {s0 s1 : Seen} {count number : ℕ} {list : List
    T} where
  pub gathering_more : {E : Type 0} {fault : E → Option Fault} {k : ℕ} {s2 : Seen} (x : Option T)
      → Gathering f cost s0 s1 count number list → number < count
      → Reads {E = E} fault k s1 s2 (λ m. f m number) (Ok x) → cost * number + k ≤ cost * (number + 1)
      → Gathering f cost s0 s2 count (number + 1) (list ++ option_to_list x)
  gathering_more x t some a fits =
      let n_is : count - number ≡ suc (count - (number + 1)) = omega arith in
      record {
        reading = reading_gives _ _
            (reading_then (λ m. gathered (f m) count 0
            ≡ after_all (list ++ option_to_list x) (gathered (f m) (count - (number + 1)) (number + 1))) t.reading a
            (λ m e y. e
            ∙ ap (after_all list) (gathered_step (f m) number (count - number) (count - (number + 1)) x n_is y.is)
            ∙ after_all_twice list (option_to_list x) (gathered (f m) (count - (number + 1)) (number + 1))))
            fits (λ m e. e);
      }

  pub gathering_done : {E : Type 0} {fault : E → Option Fault} (most : ℕ) → Gathering f cost s0 s1 count number list
      → number ≡ count → cost * number ≤ most
      → Reads {E = E} fault most s0 s1 (λ m. gathered (f m) count 0) (Ok list)
  gathering_done most t all fits = reading_gives _ _ t.reading fits
      (λ m e. record {
        is = e ∙ ap (after_all list) (gathered_end (f m) number (count - number) (omega arith)) ∙ ap Ok
            (append-nil list);
      })

  pub gathering_stop : {E E' : Type 0} {fault : E → Option Fault} {fault' : E' → Option Fault} {k : ℕ} {s2 : Seen}
      {e : E} (most : ℕ) (e' : E') → Gathering f cost s0 s1 count number list → number < count
      → Reads {T = Option T} fault k s1 s2 (λ m. f m number) (Err e) → fault' e' ≡ fault e
      → cost * number + k ≤ most
      → Reads {T = List T} fault' most s0 s2 (λ m. gathered (f m) count 0) (Err e')
  gathering_stop {fault = fault} {e = e} most e' t some a same fits =
      let n_is : count - number ≡ suc (count - (number + 1)) = omega arith in
      reading_gives _ _
      (reading_then (λ m. FaultIs (gathered (f m) count 0) (fault e)) t.reading a
      (λ m d y. elim (fault e) as (λ o. FaultIs (f m number) o → FaultIs (gathered (f m) count 0) o) [
        | None ↦ λ h. tt
        | Some g ↦ λ h. d ∙ ap (after_all list)
            (gathered_stop (f m) number (count - number) (count - (number + 1)) g n_is h)
      ] y.is))
      fits (λ m h. record { is = rw same h })

  pub gathering_lost : {E E' : Type 0} {fault : E → Option Fault} {fault' : E' → Option Fault} {k : ℕ} {s2 : Seen}
      {x : Option T} (most : ℕ) (e' : E') → Gathering f cost s0 s1 count number list
      → Reads {E = E} fault k s1 s2 (λ m. f m number) (Ok x) → fault' e' ≡ None
      → cost * number + k ≤ most
      → Reads {T = List T} fault' most s0 s2 (λ m. gathered (f m) count 0) (Err e')
  gathering_lost most e' t a same fits =
      reading_gives _ _ (reading_then (λ m. ⊤) t.reading a (λ m d y. tt)) fits
      (λ m h. record { is = rw same tt })
