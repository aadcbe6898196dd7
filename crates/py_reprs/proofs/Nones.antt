-- What is none where it was not read.
use Rattle.std.proofs.Common.{◌≡◌, ℕ, refl, ap, arith, true, false}
use Rattle.std.specs.Prelude.{Option, Some, None, Result, Ok, Err}
use Rattle.process_memory.specs.Memory.{Memory, Found, Fault}
use Rattle.process_memory.specs.Seen.{Answers, FaultIs, Reads, Seen}
use Rattle.process_memory.proofs.Reading.{reading_gives}
use Rattle.py_builtins.specs.ObjectError.{object_fault}
use Rattle.py_builtins.specs.declared.error.ObjectError.{ObjectError}
use Rattle.py_coroutines.specs.declared.places.Family.{Family}
use Rattle.py_coroutines.specs.Places.{is_sound_family}
use Rattle.py_reprs.specs.Coroutines.{IsOrNone, NoneBy, if_found, known_state_at, state_if, stated_at}

module _ {T : Type 0} (d : Found T) (r : Result (Option T) ObjectError) where
  none_by : (o : Option Fault) → FaultIs d o → NoneBy o r → Answers object_fault (Ok (if_found d)) r
  none_by None q k = rw k (record { is = tt })
  none_by (Some f) q k = rw (k, q) (record { is = refl })

  pub none_known : (found : Result T ObjectError) → Answers object_fault d found → IsOrNone found r
      → Answers object_fault (Ok (if_found d)) r
  none_known (Ok x) p h = rw (h, p.is) (record { is = refl })
  none_known (Err e) p h = none_by (object_fault e) p.is h

-- what was read, or none
pub reads_or_none : {T : Type 0} {n : ℕ} {s0 s1 : Seen} {d : Memory → Found T} {found : Result T ObjectError}
    {r : Result (Option T) ObjectError} → Reads object_fault n s0 s1 d found → IsOrNone found r
    → Reads object_fault n s0 s1 (λ m. Ok (if_found (d m))) r
reads_or_none {n = n} {d = d} {found = found} {r = r} p h =
    reading_gives n _ p (omega arith) (λ m a. none_known (d m) r found a h)

-- how far a coroutine has come, where what is read of each record lies inside it
pub known_if : (m : Memory) (family : Family) (a : ℕ) → is_sound_family family ≡ true
    → known_state_at m family a ≡ Ok (if_found (stated_at m family a))
unfolding known_state_at
known_if m family a whole = ap (λ b. Ok (state_if b (stated_at m family a))) whole

-- the same, where it does not
pub unknown_if : (m : Memory) (family : Family) (a : ℕ) → is_sound_family family ≡ false
    → known_state_at m family a ≡ Ok None
unfolding known_state_at
unknown_if m family a short = ap (λ b. Ok (state_if b (stated_at m family a))) short
